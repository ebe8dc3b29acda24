pub mod Kept
pub mod Laying
pub mod Piece
pub mod Filling
pub mod Putting
