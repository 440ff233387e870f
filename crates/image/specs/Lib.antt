pub mod Check
pub mod Directory
pub mod Placing
pub mod Segments
pub mod Words
