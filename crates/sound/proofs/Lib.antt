-- Laws of Sound.
pub mod Sounds
pub mod OnePass
pub mod Facts
pub mod Start
pub mod Alone
pub mod Spelled
