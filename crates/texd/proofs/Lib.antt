pub mod EarlyLemmas
pub mod FileLemmas
