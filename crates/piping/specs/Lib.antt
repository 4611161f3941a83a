-- Standard input of a program: definitions.
pub mod Input
