pub mod ReadLemmas
pub mod DecimalLemmas
pub mod FrameLemmas
pub mod BreakLemmas
pub mod HeaderLemmas
pub mod PartLemmas
pub mod LineLemmas
pub mod SessionLemmas
