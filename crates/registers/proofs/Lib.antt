pub mod Stores
pub mod Together
pub mod Memory
