-- What every call keeps.
pub mod Kept
