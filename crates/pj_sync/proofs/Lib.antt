pub mod Lines
pub mod Receiving
pub mod Sets
