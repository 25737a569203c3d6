-- What the definitions of all crates are made of.
pub mod Pick
pub mod All
pub mod Table
pub mod Row
