pub mod Counts
pub mod Laws
pub mod Orders
pub mod Parts
pub mod Shapes
pub mod Tangles
