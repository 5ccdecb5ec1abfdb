pub mod Reading
pub mod Mapping
