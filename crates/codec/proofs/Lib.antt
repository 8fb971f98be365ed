-- The laws of layouts.
pub mod Lawful
pub mod Every
pub mod Stored
pub mod InPlace
pub mod Arrays
pub mod Listed
pub mod Decode
pub mod Laws
