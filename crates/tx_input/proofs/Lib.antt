pub mod UnreadLemmas
pub mod OwnedLemmas
pub mod TakingLemmas
pub mod NameLemmas
