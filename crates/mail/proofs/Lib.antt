-- What the proofs of mail share, and its laws.
pub mod States
pub mod Values
pub mod Fronts
pub mod Parameters
pub mod Lines
pub mod Whole
pub mod Laws
