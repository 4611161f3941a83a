-- Bracket matching over bit strings: the laws.
pub mod Depth
pub mod Laws
pub mod Loops
pub mod Meaning
pub mod Partners
pub mod Passing
pub mod Scanning
