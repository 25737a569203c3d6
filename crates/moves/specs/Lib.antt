-- The definitions that contracts cite for what a Step does with a token or a circuit, and what that asks for.
pub mod Moves
pub mod Needs
