pub mod Chains
pub mod Labels
pub mod Places
pub mod Scans
