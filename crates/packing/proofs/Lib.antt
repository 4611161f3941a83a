-- Packing: the laws.
pub mod Charting
pub mod Later
pub mod Order
pub mod Outcomes
