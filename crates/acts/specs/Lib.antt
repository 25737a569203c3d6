-- The definitions of the acts that calls are composed of, and what they ask for.
pub mod Acts
pub mod Needs
