-- One pass over a whole map: the laws.
pub mod Laws
pub mod Looked
pub mod Standing
