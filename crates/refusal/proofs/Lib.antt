pub mod Numbers
pub mod Granted
