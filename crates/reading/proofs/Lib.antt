-- Reading the text of a drawing: the laws.
pub mod Numbers
pub mod Rows
pub mod Passes
pub mod Whole
pub mod Laws
