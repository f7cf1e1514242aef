pub mod RowOrder
pub mod KeptRows
pub mod NextRows
pub mod ListedRows
pub mod TablesOfSets
