-- The starred cases hold.
pub mod Holds
