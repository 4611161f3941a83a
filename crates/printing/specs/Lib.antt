-- Text put into lent memory: definitions.
pub mod Writing
