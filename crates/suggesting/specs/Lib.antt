-- Finding marks: what the contracts within the crate cite.
pub mod Later
