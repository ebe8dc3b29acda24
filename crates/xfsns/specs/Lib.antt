pub mod Home
pub mod Answer
pub mod Top
pub mod Manifest
