-- Check 7: what its contracts cite.
pub mod Finding
