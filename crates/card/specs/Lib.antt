pub mod Bottom
pub mod Causes
pub mod Cells
pub mod Ends
pub mod Meaning
pub mod Ports
