-- The sides and the first places of all areas: definitions.
pub mod Tallied
