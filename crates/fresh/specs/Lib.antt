-- The definitions that the contracts of the starts cite.
pub mod Fresh
pub mod Needs
