pub mod Ranges
pub mod Stretches
