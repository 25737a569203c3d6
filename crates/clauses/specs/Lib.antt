-- The clauses of the Sound list, each a test at one place, and the ties that make it last.
pub mod Counts
pub mod Cables
pub mod Pairs
pub mod Contents
pub mod Sentences
pub mod Ties
