-- Permutations of the numbers below a bound: the definitions.
pub mod Cycles
pub mod Exchange
