pub mod Nodes
pub mod Additions
pub mod Sortings
pub mod Rises
pub mod Meanings
pub mod Standing
