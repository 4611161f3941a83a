-- The neighbours of an area: proofs.
pub mod Counting
