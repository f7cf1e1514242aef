pub mod CutsHeld
pub mod BlocksOfSets
pub mod InnerRows
pub mod OutlineChanges
pub mod StepBounds
pub mod VertexRows
pub mod TextOfInsertions
pub mod TableVertices
