-- Laws of the acts.
pub mod Pushes
pub mod Doors
pub mod Queues
