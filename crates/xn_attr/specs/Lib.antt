pub mod Inodes
pub mod Faults
pub mod Costs
