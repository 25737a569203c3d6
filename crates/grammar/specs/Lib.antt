-- The grammar of what may stand in a port.
pub mod Stage
pub mod Walk
