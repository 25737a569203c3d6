-- What Sound and tight ask of lines, each a test at one place.
pub mod Lines
