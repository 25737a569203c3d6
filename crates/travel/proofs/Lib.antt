-- Laws of what travels on lines.
pub mod There
pub mod Due
pub mod Lent
pub mod Arrivals
pub mod Accounts
pub mod Cables
pub mod Loads
pub mod Tokens
pub mod Changed
pub mod Keeps
pub mod Granted
pub mod Again
pub mod Owes
pub mod Stepped
