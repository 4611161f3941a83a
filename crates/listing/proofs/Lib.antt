-- The listing of a map: laws.
pub mod Letters
pub mod Listed
pub mod Texts
