pub mod SpellingLemmas
pub mod DimensionLemmas
pub mod GlueLemmas
