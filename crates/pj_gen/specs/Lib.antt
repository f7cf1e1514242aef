pub mod Draws
pub mod Pieces
pub mod Changes
pub mod Requests
pub mod Summary
pub mod Laws
