-- The definitions that contracts cite for the lines of cables.
pub mod Line
pub mod Load
