-- Laws of the names.
pub mod Bytes
pub mod Ranges
