-- The definitions that the promises of script cite. They say what docs/DESKRUN.md, which is quoted, says in words.
pub mod Texts
pub mod Number
pub mod Hex
pub mod Kept
pub mod Word
pub mod Command
