pub mod Disks
pub mod Images
pub mod Session
pub mod Life
