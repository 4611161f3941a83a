-- Bracket words: the laws.
pub mod Cases
pub mod Letters
pub mod Stack
pub mod Held
pub mod Mate
pub mod Unique
pub mod Step
pub mod Numbers
pub mod Points
pub mod Sizes
pub mod Halves
pub mod Same
pub mod Thin
pub mod Openings
pub mod Mates
pub mod Order
pub mod Round
