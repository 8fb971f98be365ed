-- The laws of the limits, the replies and the numbers.
pub mod Laws
