pub mod Journals
pub mod Life
