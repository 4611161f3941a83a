-- Packing after checks 1 to 3: definitions of the code's own.
pub mod Later
