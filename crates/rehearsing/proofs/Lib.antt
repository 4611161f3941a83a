-- A rehearsal: laws.
pub mod Chained
