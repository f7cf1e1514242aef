pub mod ReferenceLemmas
pub mod RangeLemmas
pub mod NeedLemmas
