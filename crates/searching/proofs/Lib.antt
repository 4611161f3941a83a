-- The joining border of two points: laws.
pub mod Joins
