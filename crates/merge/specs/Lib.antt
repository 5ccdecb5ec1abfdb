pub mod Merges
pub mod Checks
