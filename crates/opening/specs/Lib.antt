-- Opening a packed map: points and areas by their numbers, and the checks of a call's own number.
pub mod Cells
pub mod Checks
