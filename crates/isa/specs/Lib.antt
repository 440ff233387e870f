pub mod Words
pub mod Fields
pub mod Branch
pub mod Alu
pub mod Opcodes
