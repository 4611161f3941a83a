-- The demands of document 01 as theorems.
pub mod Cases
pub mod Alike
pub mod AlikeDrawings
pub mod Faithful
pub mod Answers
pub mod Turan
pub mod OneCall
pub mod Asked
pub mod Cells
pub mod Schedule
pub mod Demands
pub mod Neighbours
pub mod Suggested
pub mod Round
