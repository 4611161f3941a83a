-- Text put into lent memory: laws.
pub mod Writes
pub mod Columns
pub mod Stands
pub mod Shown
