pub mod Curves
pub mod Operations
pub mod Rating
pub mod Bounds
