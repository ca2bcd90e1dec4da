pub mod Same
pub mod Knows
