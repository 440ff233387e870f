pub mod Digits
pub mod Filling
pub mod Lines
pub mod Parting
pub mod Writing
