pub mod Directories
pub mod Attributes
