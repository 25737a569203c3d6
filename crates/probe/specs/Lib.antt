-- The definitions that contracts cite for transitions on the wires of a link.
pub mod Wires
pub mod Digits
pub mod Form
pub mod Serial
pub mod Fast
pub mod Answer
pub mod Calls
pub mod Facts
pub mod Examples
pub mod Needs
