-- Laws of tokens and headers.
pub mod Channels
pub mod Words
pub mod Headers
