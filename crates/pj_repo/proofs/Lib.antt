pub mod Journals
pub mod Answering
pub mod Quiet
pub mod Installing
pub mod Sharing
pub mod Closing
