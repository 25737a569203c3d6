-- Laws of Aim, Output and Input.
pub mod There
pub mod Carried
pub mod Possibles
pub mod Sent
pub mod Refusals
pub mod Lawful
pub mod Lent
