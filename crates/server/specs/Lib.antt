-- The server, and what each call makes of it.
pub mod Limits
pub mod Server
pub mod Slots
pub mod Mechanisms
pub mod WellFormed
pub mod Outcome
pub mod Make
pub mod Add
pub mod Open
pub mod Line
pub mod Verdict
pub mod MailEnded
pub mod Who
pub mod Close
pub mod Requests
