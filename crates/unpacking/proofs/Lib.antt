-- Unpacking a packed map: the laws.
pub mod Filling
pub mod Placed
pub mod Written
pub mod Answered
