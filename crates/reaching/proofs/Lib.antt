-- The search from end 0 over a set of borders: the laws.
pub mod Queue
pub mod Gather
pub mod Points
pub mod Step
pub mod Reach
pub mod Writing
pub mod Told
