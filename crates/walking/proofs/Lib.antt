-- The word of a map's bytes: the laws.
pub mod Decoded
pub mod Walks
pub mod Checked
pub mod Turns
