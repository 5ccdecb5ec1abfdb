pub mod Words
pub mod Verdicts
pub mod Modes
pub mod Replicas
