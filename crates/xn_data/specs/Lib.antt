pub mod Checks
pub mod Weighing
pub mod Viewed
pub mod Standing
pub mod Searching
