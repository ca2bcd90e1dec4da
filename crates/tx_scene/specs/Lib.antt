pub mod Scenes
pub mod Changes
pub mod Knowledge
