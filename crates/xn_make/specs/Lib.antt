pub mod Fixed
pub mod SpelledInodes
pub mod SpelledSuperblocks
pub mod SpelledBlocks
pub mod Directories
pub mod Laid
pub mod Images
pub mod Samples
