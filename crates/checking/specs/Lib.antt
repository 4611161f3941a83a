-- The checks of a lent drawing: what their contracts cite.
pub mod Lent
