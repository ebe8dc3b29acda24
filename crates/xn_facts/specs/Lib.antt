pub mod Verdicts
pub mod Facts
pub mod Owned
pub mod Seen
pub mod Blocks
