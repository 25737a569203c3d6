-- The definitions that contracts cite for circuits.
pub mod Circuit
