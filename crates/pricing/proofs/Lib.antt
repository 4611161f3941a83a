-- A tariff in the code's hands: laws.
pub mod Laws
