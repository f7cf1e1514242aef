pub mod Histories
pub mod ListedGraphs
pub mod Whole
pub mod States
pub mod Neighbours
