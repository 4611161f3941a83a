-- The texts of the programs `places` and `schedule`: the laws.
pub mod Cases
pub mod Decimal
pub mod Lines
pub mod Exact
pub mod Short
pub mod Columns
pub mod Shown
pub mod Pages
pub mod Running
pub mod Schedule
