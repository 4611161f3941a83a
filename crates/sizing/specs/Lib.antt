-- Counting over runs of letters: the definitions.
pub mod Runs
