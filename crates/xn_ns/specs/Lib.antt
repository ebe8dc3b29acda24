pub mod Ends
pub mod Sights
pub mod Lines
pub mod Steps
pub mod Costs
