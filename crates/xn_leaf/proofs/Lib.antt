pub mod Reading
pub mod Filling
pub mod BestsRead
pub mod FreeForms
