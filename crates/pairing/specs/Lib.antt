-- One pass over a whole word: what it asks, what its lists hold.
pub mod Paired
pub mod Passing
