-- The demands of document 01: what each theorem says.
pub mod Statements
pub mod Neighbours
pub mod Suggested
pub mod Rehearsal
pub mod Round
