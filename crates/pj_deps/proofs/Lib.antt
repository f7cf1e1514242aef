pub mod PairKeys
pub mod SetTables
pub mod LeastHolders
