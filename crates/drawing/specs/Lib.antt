-- The drawing, its checks and its book: the definitions. Nothing here knows of words, strings or bytes.
pub mod Drawing
pub mod Renumbered
pub mod Checks
pub mod Tree
pub mod Session
pub mod Neighbours
pub mod Book
