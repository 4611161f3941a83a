-- The sides and the first places of all areas: laws.
pub mod Lookups
pub mod Counting
