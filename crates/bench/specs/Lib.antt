pub mod Setups
pub mod States
pub mod Opening
pub mod Certificates
