-- The definitions that the promises of profile cite.
pub mod Limits
pub mod Texts
pub mod Numbers
