pub mod Blocks
pub mod Scans
pub mod LiveText
pub mod Targets
pub mod Pairs
pub mod EntryTexts
pub mod Gives
