-- The definitions that contracts cite for a port's buffer.
pub mod Ring
pub mod Queue
pub mod Memory
