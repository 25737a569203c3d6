-- Laws of Step, and that a sound state has what Step and a line's step ask for.
pub mod Hears
pub mod Legal
pub mod Cabled
pub mod Passes
pub mod Arrivals
pub mod Possibles
pub mod Stepped
