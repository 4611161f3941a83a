-- Writing a map: what its contracts cite.
pub mod Writing
