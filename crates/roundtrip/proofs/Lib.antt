-- From a word to its drawing and back: the laws.
pub mod Openings
pub mod Ends
pub mod Drawing
pub mod Passes
pub mod Words
pub mod Renumbered
