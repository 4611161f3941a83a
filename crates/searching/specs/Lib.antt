-- The joining border of two points: what the search answers.
pub mod Joined
