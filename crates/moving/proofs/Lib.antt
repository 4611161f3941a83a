-- What is asked at a place: the laws.
pub mod Moved
