-- The definitions that the promises of base64 cite.
pub mod Base64
pub mod Private
