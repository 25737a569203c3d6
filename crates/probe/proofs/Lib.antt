-- The laws of transitions.
pub mod Tables
pub mod Places
pub mod Levels
pub mod Lays
pub mod Closings
pub mod Serials
pub mod Fasts
pub mod Writing
pub mod Reading
pub mod Backs
pub mod Faithfuls
pub mod Found
pub mod Lows
pub mod Leasts
pub mod Parities
pub mod Worked
