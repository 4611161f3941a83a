-- The layout of a packed map: the laws.
pub mod Offsets
