-- Unpacking a packed map: what the list of ends holds on the way.
pub mod Ended
