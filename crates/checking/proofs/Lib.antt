-- The checks of a lent drawing: the laws.
pub mod Decided
pub mod Laws
pub mod Across
pub mod Scans
pub mod Seen
