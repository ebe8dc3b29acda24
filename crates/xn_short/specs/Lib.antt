pub mod Widths
pub mod Whole
pub mod Checks
pub mod Viewed
pub mod Naming
