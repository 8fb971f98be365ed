-- The definitions that the contracts of lineface cite.
pub mod Readings
