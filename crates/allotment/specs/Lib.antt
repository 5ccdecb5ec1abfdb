pub mod Operations
pub mod Balances
pub mod Bounds
