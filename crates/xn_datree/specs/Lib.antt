pub mod Headers
pub mod Leaves
pub mod Nodes
pub mod Held
pub mod Forks
pub mod Finding
