pub mod OverImages
