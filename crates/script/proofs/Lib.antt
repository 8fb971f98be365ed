-- Laws that the proofs of the functions cite; Laws: what holds of the definitions.
pub mod Texts
pub mod Decimal
pub mod Hexadecimal
pub mod Parts
pub mod Cut
pub mod Laws
pub mod Examples
