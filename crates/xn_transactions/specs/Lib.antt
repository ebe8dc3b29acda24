pub mod Faults
pub mod Taking
pub mod Pieces
pub mod Viewed
pub mod Joining
pub mod Placing
pub mod Decoding
pub mod Walking
