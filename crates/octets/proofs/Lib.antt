-- Laws that the proofs of the crates above cite too.
pub mod Lists
pub mod Table
pub mod Alphabet
pub mod Cases
pub mod Answers
pub mod Words
pub mod Padded
pub mod Padding
pub mod Every
pub mod Chains
pub mod TextReaders
