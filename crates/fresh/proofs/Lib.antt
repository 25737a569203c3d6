-- Laws of the starts.
pub mod Clearing
pub mod Settled
pub mod Links
pub mod Passed
