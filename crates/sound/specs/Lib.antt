-- Sound, tight and quiet.
pub mod Tests
pub mod Clauses
pub mod Questions
pub mod Sound
