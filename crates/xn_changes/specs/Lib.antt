pub mod Transactions
pub mod Items
pub mod Decoded
pub mod Spelled
