-- Laws of circuits.
pub mod Backs
