pub mod Marks
pub mod Given
pub mod Contests
pub mod Sought
pub mod Rivals
pub mod Sorting
pub mod Laws
