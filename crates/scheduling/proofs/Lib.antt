-- The schedule of a map: laws.
pub mod Columns
pub mod Paging
