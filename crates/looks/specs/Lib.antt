-- The definitions that contracts cite for looks.
pub mod Looks
