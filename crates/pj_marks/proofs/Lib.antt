pub mod Lines
pub mod Grouping
pub mod Folds
pub mod Found
pub mod Shapes
pub mod Naming
