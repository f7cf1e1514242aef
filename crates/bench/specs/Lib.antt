pub mod Boards
pub mod Whole
pub mod LabelsOf
