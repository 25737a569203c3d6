-- The definitions that contracts cite for what travels on lines, and what that asks for.
pub mod Travel
pub mod Needs
pub mod Accounts
