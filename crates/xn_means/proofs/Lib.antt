pub mod Single
pub mod WholeEntries
pub mod OneSpace
pub mod Places
pub mod Meant
pub mod Lookups
pub mod Accepted
