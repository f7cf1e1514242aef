pub mod Kept
pub mod Many
pub mod Three
