pub mod Lists
pub mod Searching
pub mod OverImages
pub mod Reached
pub mod Rooms
