-- One pass over a whole map: what its lists hold.
pub mod Surveyed
