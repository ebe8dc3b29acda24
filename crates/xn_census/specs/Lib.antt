pub mod Added
pub mod Census
pub mod SortedOut
