pub mod Numbers
pub mod Unless
