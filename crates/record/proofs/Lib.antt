pub mod Layouts
pub mod Bytes
pub mod Lists
pub mod Heads
pub mod Packs
pub mod Same
pub mod Chunks
