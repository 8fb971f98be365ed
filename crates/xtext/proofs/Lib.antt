-- What the proofs of xtext share, and its laws.
pub mod Characters
pub mod Grammar
pub mod Turns
pub mod Walk
pub mod Laws
