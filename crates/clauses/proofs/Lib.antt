-- Laws of the clauses.
pub mod Readies
pub mod Meanings
pub mod Spoken
pub mod Destined
