pub mod Sets
pub mod Stored
pub mod Insertions
