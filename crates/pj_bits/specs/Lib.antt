pub mod Matrix
pub mod Row
pub mod Words
