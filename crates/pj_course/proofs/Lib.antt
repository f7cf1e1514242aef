pub mod Zero
pub mod Later
