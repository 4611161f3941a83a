-- From a word to its drawing and back: the definitions.
pub mod Faithful
