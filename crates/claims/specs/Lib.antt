-- What holds of the definitions as a whole.
pub mod Cases
pub mod Told
pub mod History
pub mod Secrecy
pub mod Names
pub mod Relays
pub mod Numbers
pub mod Others
pub mod Sessions
pub mod Spellings
pub mod Exchanges
pub mod Refusals
pub mod Taken
pub mod Lengths
pub mod Witnesses
