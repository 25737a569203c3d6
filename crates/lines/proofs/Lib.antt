-- Laws of lines.
pub mod Queues
pub mod Loads
pub mod Ends
