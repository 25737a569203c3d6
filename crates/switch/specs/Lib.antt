-- The definitions that contracts cite for Step: what it does, its plan being known, and what that asks for.
pub mod Step
pub mod Needs
