pub mod Counted
pub mod CountedVertices
pub mod Neighbours
pub mod CutsOf
pub mod Laws
