-- One pass over a whole word: the laws.
pub mod Stacks
pub mod Pairs
pub mod Passed
pub mod Unread
pub mod Filling
