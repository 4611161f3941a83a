-- The packed map: strings, bytes, opening, and every call on map bytes. The definitions that the contracts cite.
pub mod Bytes
pub mod Fits
pub mod Open
pub mod Calls
pub mod Sessions
pub mod Pack
pub mod Packs
pub mod Before
pub mod Suggest
