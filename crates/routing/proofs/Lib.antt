-- Laws of routing.
pub mod Highest
pub mod Fields
pub mod Entries
