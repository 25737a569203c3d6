-- Laws of Wire and Set.
pub mod Passed
pub mod Leaves
pub mod Settled
pub mod Lent
