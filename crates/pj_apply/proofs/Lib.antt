pub mod Distinct
pub mod LinkLemmas
pub mod Kept
