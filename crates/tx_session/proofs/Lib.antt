pub mod SessionLemmas
pub mod ReadingLemmas
