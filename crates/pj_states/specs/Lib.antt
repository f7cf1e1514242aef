pub mod Rows
pub mod Named
pub mod Survivals
pub mod Statuses
pub mod Index
pub mod OfSets
pub mod Given
