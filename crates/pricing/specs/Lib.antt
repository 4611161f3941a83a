-- A tariff in the code's hands: definitions.
pub mod Lists
