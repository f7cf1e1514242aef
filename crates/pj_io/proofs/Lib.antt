pub mod Named
pub mod Opened
pub mod Shared
pub mod Taken
pub mod Written
