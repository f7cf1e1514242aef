pub mod Orders
pub mod Totals
pub mod Rows
pub mod OwnRows
pub mod Laws
