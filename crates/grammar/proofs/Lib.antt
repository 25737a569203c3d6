-- Laws of the grammar.
pub mod Nexts
pub mod Walks
