-- Standard input and output of a program: laws.
pub mod Ending
