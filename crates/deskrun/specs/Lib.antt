-- The definitions that the promises of deskrun cite.
pub mod Row
pub mod Transcript
