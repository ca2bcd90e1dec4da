pub mod States
pub mod Soundness
pub mod Changes
pub mod Steps
pub mod Holding
