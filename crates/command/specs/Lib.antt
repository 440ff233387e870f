pub mod Commands
pub mod Keywords
pub mod Lines
pub mod Numbers
pub mod Operands
pub mod Texts
pub mod Words
