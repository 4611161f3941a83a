-- Bracket words: the definitions.
pub mod Brackets
pub mod Word
