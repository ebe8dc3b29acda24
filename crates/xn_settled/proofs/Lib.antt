pub mod Laying
pub mod Lengths
pub mod Cores
pub mod Pieces
pub mod Covering
