-- The drawing's book and the bracket word of its tour agree: the laws.
pub mod Positions
pub mod Nesting
pub mod Steps
pub mod Cells
pub mod Counts
pub mod Passed
pub mod Book
