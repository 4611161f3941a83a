-- What packing returns to a C host: definitions of the code's own.
pub mod Desk
