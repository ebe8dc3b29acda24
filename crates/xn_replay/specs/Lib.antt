pub mod Overlay
pub mod Viewed
