pub mod Steps
pub mod Meetings
