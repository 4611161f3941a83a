-- The factor of an area of a map: laws.
pub mod Summing
pub mod Prices
