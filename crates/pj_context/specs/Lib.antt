pub mod Needs
pub mod References
pub mod Ranges
