-- Permutations of the numbers below a bound: the laws.
pub mod Cases
pub mod Iter
pub mod Same
pub mod Low
pub mod Classes
pub mod Exchanged
pub mod Exchange
pub mod Chain
pub mod Conjugate
pub mod Steps
