pub mod Ordered
pub mod Permuted
pub mod Shared
pub mod Cleared
