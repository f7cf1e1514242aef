pub mod KeyLemmas
pub mod FoundLemmas
pub mod Scanned
pub mod Gathered
