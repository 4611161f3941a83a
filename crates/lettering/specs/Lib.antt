-- Writing a map letter after letter: what its contracts cite.
pub mod Lettering
