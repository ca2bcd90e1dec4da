pub mod Levels
pub mod Saves
pub mod Sample
