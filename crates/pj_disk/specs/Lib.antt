pub mod Told
pub mod Causes
pub mod Image
pub mod Moments
pub mod Reading
pub mod MemDisk
