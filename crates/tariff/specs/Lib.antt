-- The tariff: definitions.
pub mod Tariff
pub mod Book
pub mod Maps
pub mod Statements
