pub mod Joins
pub mod LowBits
pub mod Ones
pub mod Rows
pub mod Squares
pub mod Turning
pub mod Writes
