-- The definitions that contracts cite for what a Step is to do.
pub mod Plan
pub mod Needs
