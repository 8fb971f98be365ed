-- What the proofs of lines share, and its laws.
pub mod Lists
pub mod Names
pub mod Verbs
pub mod Auths
pub mod Says
pub mod Commands
pub mod Alikes
pub mod Spellings
pub mod Readings
pub mod Laws
