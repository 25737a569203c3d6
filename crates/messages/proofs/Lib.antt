-- Laws of switch messages.
pub mod Writes
pub mod Registers
pub mod Replies
pub mod Lent
pub mod Answers
pub mod Reading
