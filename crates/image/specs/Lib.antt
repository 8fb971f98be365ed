-- The image of a server.
pub mod Sizes
pub mod Layout
pub mod Image
pub mod InPlace
pub mod Private
