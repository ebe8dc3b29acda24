pub mod Places
pub mod Spanned
pub mod Known
pub mod Judged
pub mod Examined
pub mod Checked
pub mod Surveyed
