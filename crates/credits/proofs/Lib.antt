-- Laws of credits.
pub mod Grants
