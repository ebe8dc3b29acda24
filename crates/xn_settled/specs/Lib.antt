pub mod Inodes
pub mod Blocks
pub mod Spelt
pub mod Settled
pub mod Lawful
pub mod Pending
