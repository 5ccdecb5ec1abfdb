pub mod Certified
pub mod Running
pub mod Lasting
