mod FillLemmas
pub mod PresetLemmas
mod TableLemmas
