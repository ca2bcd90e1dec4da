pub mod PlaceLemmas
pub mod LevelLemmas
pub mod CategoryLemmas
pub mod StepLemmas
pub mod HoldingLemmas
pub mod ContentLemmas
