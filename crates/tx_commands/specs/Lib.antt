pub mod Items
pub mod Wishes
pub mod Commands
pub mod Outcomes
pub mod Stages
pub mod Knowledge
