pub mod HeldNames
pub mod Pulls
pub mod Texts
pub mod Uprooting
