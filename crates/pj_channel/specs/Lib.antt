pub mod Ways
pub mod Idle
