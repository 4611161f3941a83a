-- Check 7: the laws.
pub mod Nests
pub mod Climb
pub mod Stack
pub mod Emptied
