-- Layouts of fixed length, and values read, tested and stored where they stand.
pub mod Codec
pub mod Stored
pub mod InPlace
