pub mod Records
pub mod RecordFaults
pub mod Spelled
pub mod Ring
pub mod Heads
