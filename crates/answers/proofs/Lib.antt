-- Answers and checks: the laws.
pub mod Computed
pub mod Fixed
pub mod Order
pub mod Passing
pub mod Steps
