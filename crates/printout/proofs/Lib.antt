-- The printout of a text: laws.
pub mod Mapped
pub mod Denoted
