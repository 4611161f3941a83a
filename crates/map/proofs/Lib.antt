-- Points and areas of a packed map, and joining borders: the laws.
pub mod Cells
pub mod Joins
