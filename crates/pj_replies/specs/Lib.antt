pub mod Apart
pub mod Digits
pub mod Finds
pub mod MayCome
pub mod Lines
pub mod Bodies
pub mod Reads
pub mod Laws
