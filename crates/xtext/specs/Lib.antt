-- The definitions that the promises of xtext cite.
pub mod Xtext
pub mod Private
