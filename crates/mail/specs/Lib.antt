-- The definitions that the promises of mail cite.
pub mod Address
pub mod Parameter
pub mod Mail
pub mod Private
pub mod Reader
pub mod Says
