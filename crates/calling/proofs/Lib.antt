-- One call of a session: laws.
pub mod Telling
pub mod Coded
