pub mod Marks
pub mod Trees
pub mod Blocks
pub mod Starts
pub mod Pools
pub mod Faults
