-- Bracket matching over bit strings: the definitions.
pub mod Bytes
pub mod Scans
