pub mod Faults
pub mod Calls
pub mod Told
pub mod Lives
