-- Sessions on a packed map: the lists lent to one.
pub mod Runs
