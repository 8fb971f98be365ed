-- The definitions that the contracts of benchface cite.
pub mod Numbers
