-- The neighbours of an area: definitions.
pub mod Counted
