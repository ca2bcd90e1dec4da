pub mod SameLemmas
pub mod DelimitedLemmas
pub mod UndelimitedLemmas
pub mod SplitLemmas
pub mod StandingLemmas
pub mod SettlingLemmas
pub mod MatchingLemmas
pub mod TakingLemmas
