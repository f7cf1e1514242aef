pub mod UprootPass
pub mod LiveText
pub mod Links
pub mod Printing
