-- The state as tables: where words lie, what the records are, and the view.
pub mod Layout
pub mod Records
pub mod View
pub mod Changes
pub mod Record
pub mod KindLaws
pub mod World
pub mod Start
pub mod Memories
