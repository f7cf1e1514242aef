pub mod Inner
pub mod OutlineOf
pub mod Steps
pub mod Ends
