-- The tariff: laws.
pub mod Cases
pub mod Lists
pub mod Order
pub mod Held
pub mod Means
pub mod Landings
pub mod Unread
pub mod Factors
