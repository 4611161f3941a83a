-- Statuses and slots for a C host: the laws that a caller meets the requirements with.
pub mod Room
