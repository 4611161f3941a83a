-- The drawing, its checks and its book: the laws.
pub mod Cases
pub mod Ends
pub mod Checks
pub mod Crossing
pub mod Labels
pub mod Cells
pub mod Neighbours
