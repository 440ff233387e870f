pub mod Halting
pub mod Report
