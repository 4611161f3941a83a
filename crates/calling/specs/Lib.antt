-- One call of a session: its code, what it finds and gives.
pub mod Codes
pub mod Told
