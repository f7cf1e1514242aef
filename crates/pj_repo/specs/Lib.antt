pub mod Views
pub mod ChangesBy
pub mod LookedAt
pub mod RepoView
pub mod IsJournalOf
pub mod MayInstall
