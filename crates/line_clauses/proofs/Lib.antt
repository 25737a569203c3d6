-- Laws of what is asked of lines.
pub mod Readies
pub mod Walks
pub mod Lent
pub mod Spoken
pub mod Meanings
