-- What the calls come to, exit by exit.
pub mod Exits
pub mod Adds
pub mod Opens
pub mod Settles
pub mod Lines
pub mod Verdicts
