-- The published statements: what each call answers and leaves, and runs of calls.
pub mod Calls
pub mod Runs
pub mod Lasts
pub mod Writes
pub mod Frees
pub mod Stays
