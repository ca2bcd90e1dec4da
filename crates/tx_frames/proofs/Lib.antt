pub mod FrameLemmas
pub mod ScanLemmas
pub mod TextLemmas
pub mod KnowledgeLemmas
