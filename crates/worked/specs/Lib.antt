-- The drawings, maps and texts of document 01's worked examples.
pub mod Cases
