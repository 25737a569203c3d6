-- Laws of what a Step does with a token or a circuit.
pub mod Takes
pub mod After
pub mod Frees
pub mod Moves
