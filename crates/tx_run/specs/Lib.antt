pub mod Readings
pub mod Doings
pub mod Runs
pub mod Knowledge
