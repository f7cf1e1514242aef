pub mod RangeOrder
pub mod Walked
pub mod Kept
pub mod LastHunk
