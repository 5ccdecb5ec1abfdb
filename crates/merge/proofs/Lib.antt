pub mod Faults
pub mod Joins
pub mod Lines
pub mod Prepares
pub mod Checking
