-- What the agreement of a drawing's book and its word rests on.
pub mod Toured
