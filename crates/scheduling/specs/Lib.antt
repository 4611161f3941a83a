-- The schedule of a map: definitions.
pub mod Breaks
