pub mod Answers
pub mod Operations
