-- The factor of an area of a map: definitions of the code's own.
pub mod Summed
