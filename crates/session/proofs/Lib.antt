-- What the proofs of session share, and its laws.
pub mod Names
pub mod Makes
pub mod Sound
pub mod Within
pub mod Judged
pub mod Challenges
pub mod Views
pub mod Measures
pub mod Exchanges
pub mod Relayed
pub mod Laws
