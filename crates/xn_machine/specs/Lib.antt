pub mod Device
pub mod Input
pub mod Record
pub mod Memory
pub mod MemoryFields
pub mod MemorySource
pub mod MemorySourceFields
pub mod Frames
