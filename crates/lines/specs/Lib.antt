-- The definitions that the promises of lines cite.
pub mod Mechanism
pub mod Verb
pub mod Auth
pub mod Says
pub mod Response
pub mod Command
pub mod Alike
