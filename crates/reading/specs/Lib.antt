-- Reading the text of a drawing: what the parts of a line are.
pub mod Found
