-- The tour in the working list: the laws.
pub mod Touring
