-- A spanning tree's tour: what is shown of it.
pub mod Tour
