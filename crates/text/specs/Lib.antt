-- The texts of the programs `places` and `schedule`: the definitions.
pub mod Decimal
pub mod Input
pub mod Listing
pub mod Running
pub mod Heard
pub mod Schedule
pub mod Statements
