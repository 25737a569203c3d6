-- What a list of steps makes of the memories lent for it.
pub mod Lists
pub mod Needs
