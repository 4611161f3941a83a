-- The C interface: answers fit their cells, statuses and cells follow answers, and a status of 0 is success.
pub mod Bounds
pub mod Drawings
pub mod Given
pub mod Status
