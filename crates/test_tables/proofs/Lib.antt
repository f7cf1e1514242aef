pub mod ChangedLists
pub mod Found
pub mod Alike
