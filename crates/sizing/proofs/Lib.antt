-- How many places a point or an area has: the laws.
pub mod Counting
pub mod Letters
pub mod Runs
pub mod Scan
