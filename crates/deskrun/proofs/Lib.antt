-- Laws of deskrun. Laws: what holds of a script line of any length.
pub mod Long
pub mod Laws
