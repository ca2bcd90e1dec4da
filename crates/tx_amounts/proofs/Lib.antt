pub mod StepLemmas
pub mod BackLemmas
pub mod NameLemmas
pub mod TellLemmas
pub mod MakerLemmas
