pub mod TellsLemmas
pub mod RegionLemmas
pub mod LengthLemmas
pub mod SessionLemmas
