pub mod Parts
pub mod Sessions
pub mod Stores
pub mod Lives
