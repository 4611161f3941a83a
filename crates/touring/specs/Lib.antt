-- The tour in the working list: what its contracts cite.
pub mod Working
