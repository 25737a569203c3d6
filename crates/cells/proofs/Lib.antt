-- Laws of the state as tables.
pub mod Tables
pub mod Puts
pub mod Alone
pub mod Whole
pub mod Zeros
pub mod Fars
