pub mod Fields
pub mod Lists
pub mod Stores
pub mod Faults
pub mod Frames
