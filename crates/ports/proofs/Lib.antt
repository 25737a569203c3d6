-- Laws of queues of any capacity, and of a port's buffer.
pub mod Rings
pub mod Stretches
pub mod Ports
