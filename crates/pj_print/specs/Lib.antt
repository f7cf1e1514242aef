pub mod FileParts
pub mod Entries
pub mod JoinedPairs
pub mod Pieces
pub mod OnlyOrder
pub mod InOrder
