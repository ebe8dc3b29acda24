pub mod FirstOfTwo
pub mod Owning
pub mod Seeing
pub mod ParentsOver
pub mod Forks
pub mod RunLists
pub mod ContentsOver
pub mod Together
mod InodesInBlocks
