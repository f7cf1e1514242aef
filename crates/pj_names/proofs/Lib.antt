pub mod Dirs
pub mod InodesMade
pub mod Steps
pub mod TreeChanges
