-- Opening a packed map, and the checks of a call's own number: the laws.
pub mod Rows
pub mod Refused
pub mod Passed
pub mod Values
