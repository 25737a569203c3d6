-- Laws of a list of steps.
pub mod Sures
pub mod Fold
pub mod Lent
pub mod Untight
