pub mod TablesOf
pub mod TextAt
pub mod NextEdges
pub mod VerticesIn
