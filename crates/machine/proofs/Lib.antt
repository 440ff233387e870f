pub mod Waits
mod Lawful
