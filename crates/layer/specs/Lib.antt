pub mod Kinds
pub mod Laws
pub mod Shown
pub mod Waits
