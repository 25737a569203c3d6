-- What is promised of streams, and what it is said of.
pub mod Model
pub mod Events
pub mod Demand
pub mod Watch
pub mod View
pub mod Observer
pub mod Statement
