-- The definitions that contracts cite for switch messages: what is heard, the registers, a write, and what becomes of a message at its end.
pub mod Register
pub mod Heard
pub mod Write
pub mod Ended
pub mod Needs
