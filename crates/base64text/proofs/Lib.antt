-- What the proofs of base64 share, and its laws.
pub mod Groups
pub mod Ranges
pub mod Stores
pub mod Turns
pub mod Quads
pub mod Grammar
pub mod RoundTrip
pub mod Laws
