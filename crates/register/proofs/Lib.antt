pub mod Entering
pub mod Stored
pub mod Grants
