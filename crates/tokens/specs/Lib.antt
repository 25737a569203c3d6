-- The definitions that contracts cite for tokens and headers.
pub mod Control
pub mod Word
pub mod Shape
pub mod Header
