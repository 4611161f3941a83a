-- Writing a map letter after letter: the laws.
pub mod Holding
pub mod Keeping
pub mod Ending
