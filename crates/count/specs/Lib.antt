-- Counting below a number: the definitions.
pub mod Below
