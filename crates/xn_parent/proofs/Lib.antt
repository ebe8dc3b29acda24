pub mod Orders
pub mod RecordOrder
pub mod Among
pub mod Listing
pub mod Rules
pub mod OverImages
