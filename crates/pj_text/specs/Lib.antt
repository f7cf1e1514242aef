pub mod Names
pub mod Reading
pub mod Gives
pub mod ChangeOfParts
pub mod Lines
