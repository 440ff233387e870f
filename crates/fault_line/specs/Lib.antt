pub mod Answer
pub mod Buffer
pub mod Line
pub mod Numeral
pub mod Reading
