-- Bit strings over bytes: the laws.
pub mod Digits
pub mod Fields
pub mod Laws
pub mod Letters
pub mod Loops
pub mod Stores
