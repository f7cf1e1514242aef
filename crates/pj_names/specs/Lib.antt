pub mod Given
pub mod Changes
pub mod Laws
