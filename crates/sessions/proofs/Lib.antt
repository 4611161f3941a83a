-- Sessions on a packed map: laws.
pub mod Cases
pub mod Checked
pub mod Coded
pub mod Passing
