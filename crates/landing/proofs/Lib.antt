-- What lies across the sides of an area: proofs.
pub mod Gathering
