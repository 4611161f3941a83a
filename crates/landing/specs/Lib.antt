-- What lies across the sides of an area: definitions.
pub mod Landed
