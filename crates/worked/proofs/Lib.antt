-- Document 01's examples, by computation.
pub mod Worked
pub mod Table
pub mod Books
