pub mod Examples
pub mod Worked
