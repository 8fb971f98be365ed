-- The definitions that the promises of session cite,
pub mod Limits
pub mod Session
pub mod View
pub mod Octets
pub mod Answer
pub mod Change
pub mod Query
pub mod Auth
pub mod Mail
pub mod Command
pub mod Response
pub mod Line
pub mod Verdict
pub mod MailEnded
pub mod WellFormed
-- and those that its laws cite besides.
pub mod Standing
pub mod Named
pub mod Relayed
pub mod Measures
pub mod Exchange
pub mod Alike
