pub mod Places
pub mod Stores
pub mod Tables
pub mod Sheets
