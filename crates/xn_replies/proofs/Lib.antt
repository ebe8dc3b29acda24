pub mod NoFault
pub mod Standing
pub mod Named
pub mod OfMap
pub mod Lists
pub mod Walked
pub mod Recorded
