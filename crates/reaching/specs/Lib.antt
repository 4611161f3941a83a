-- The search from end 0 over a set of borders: what its contracts cite.
pub mod Queue
pub mod Reaching
