pub mod HexDigits
pub mod Heads
pub mod Names
