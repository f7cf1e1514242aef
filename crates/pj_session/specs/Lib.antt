pub mod Spoke
pub mod Calls
pub mod Steps
pub mod Turn
pub mod Session
pub mod Laws
pub mod Entering
pub mod Served
