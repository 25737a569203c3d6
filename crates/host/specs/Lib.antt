-- What crosses to Rust and C as numbers and words.
pub mod Crossed
