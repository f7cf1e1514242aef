pub mod Seen
pub mod Speech
pub mod Seats
pub mod Stands
pub mod Prints
pub mod Load
pub mod Stages
pub mod Laws
