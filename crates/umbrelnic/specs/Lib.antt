-- The functions that a host in C calls.
pub mod Given
pub mod Private
