pub mod Bureaus
pub mod MemBureau
