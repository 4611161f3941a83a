-- The listing of a map: definitions.
pub mod Lines
