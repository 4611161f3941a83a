-- A spanning tree's tour: the laws.
pub mod Cases
pub mod Exchange
pub mod Merging
pub mod Trees
pub mod Tour
pub mod Alternate
pub mod Theorems
