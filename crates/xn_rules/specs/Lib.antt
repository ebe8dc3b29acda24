pub mod InodeRules
pub mod Namings
pub mod NameRules
pub mod Sound
pub mod Means
pub mod Checking
pub mod Outcome
