pub mod DivisionLemmas
pub mod BadnessLemmas
pub mod PartLemmas
pub mod TextLemmas
pub mod DecimalsLemmas
pub mod RoundingLemmas
pub mod ShownLemmas
pub mod Rows
