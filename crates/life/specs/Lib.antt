pub mod Calls
pub mod Making
pub mod Lives
