-- Every call on an image of any octets and any length, with lent buffers.
pub mod Call
pub mod Step
pub mod Buffers
pub mod Numbers
