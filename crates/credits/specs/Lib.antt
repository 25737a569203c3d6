-- The definitions that contracts cite for credits.
pub mod Grant
