-- The definitions that contracts cite for Aim, Output and Input, and what an Output asks for.
pub mod Ends
pub mod Aim
pub mod Input
pub mod Plan
pub mod Output
pub mod Refusals
pub mod Needs
