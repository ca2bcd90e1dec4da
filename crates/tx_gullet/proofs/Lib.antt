pub mod LevelLemmas
pub mod UndoLemmas
pub mod PieceLemmas
pub mod SceneLemmas
pub mod ShowLemmas
pub mod RunLemmas
pub mod StateLemmas
pub mod StartLemmas
