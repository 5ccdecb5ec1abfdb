pub mod Counts
pub mod Finding
