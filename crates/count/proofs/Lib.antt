-- Counting below a number: the laws.
pub mod Logic
pub mod Search
pub mod Counts
pub mod Rank
pub mod Below
pub mod Lists
pub mod Decides
pub mod Totals
