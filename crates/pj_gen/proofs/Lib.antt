pub mod Texts
pub mod OneDraw
pub mod Followings
pub mod Sessions
pub mod Openings
pub mod Counts
pub mod Calls
pub mod Keeping
