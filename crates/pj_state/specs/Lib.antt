pub mod Records
pub mod StoreKey
pub mod LastEntry
pub mod Kept
pub mod IsKept
pub mod Installs
pub mod Replies
pub mod Shared
