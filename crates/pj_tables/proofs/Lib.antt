pub mod EdgeLookups
pub mod Following
pub mod PointVertices
pub mod PseudoRows
pub mod StepSums
pub mod TextVertices
