-- The definitions that readings and writings of octets share.
pub mod Answers
pub mod Alphabet
pub mod Lists
pub mod Ascii
pub mod Reader
