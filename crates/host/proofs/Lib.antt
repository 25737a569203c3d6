-- Laws of the crossing.
pub mod Shows
pub mod Crosses
pub mod Told
pub mod Probes
