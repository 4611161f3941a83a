-- Bit strings over bytes: the definitions.
pub mod Letters
pub mod Strings
pub mod Writes
