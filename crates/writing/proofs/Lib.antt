-- Writing a map: the laws.
pub mod Filling
