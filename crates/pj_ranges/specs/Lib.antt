pub mod Units
pub mod Over
