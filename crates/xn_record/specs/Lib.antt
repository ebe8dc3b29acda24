pub mod Answers
pub mod Headers
pub mod Checks
pub mod Bodies
pub mod Writing
