-- The definitions that contracts cite for Wire and Set.
pub mod Wire
pub mod Set
pub mod Needs
