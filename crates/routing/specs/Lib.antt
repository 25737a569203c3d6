-- The definitions that contracts cite for routing.
pub mod Way
pub mod Direction
