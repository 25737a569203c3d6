-- Laws that the proofs of all crates cite.
pub mod Order
pub mod All
pub mod Table
pub mod Row
pub mod Chains
