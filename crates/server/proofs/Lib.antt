-- The laws of a server.
pub mod Tables
pub mod Within
pub mod Slots
pub mod Moves
pub mod Issues
pub mod Kept
pub mod Closes
pub mod Alike
