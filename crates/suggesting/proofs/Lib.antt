-- Finding marks: the laws.
pub mod Order
