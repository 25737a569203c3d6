-- The definitions that contracts cite for names, sizes and numbers for no.
pub mod No
pub mod Size
pub mod Number
