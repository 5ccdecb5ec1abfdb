pub mod Words
pub mod Lines
