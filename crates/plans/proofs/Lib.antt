-- Laws of plans.
pub mod Held
pub mod Routes
