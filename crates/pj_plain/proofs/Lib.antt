pub mod Holders
pub mod UprootPass
pub mod Gathering
pub mod LiveTexts
pub mod EdgeLinks
pub mod Joins
pub mod Places
pub mod FileTexts
