pub mod Sessions
pub mod Turns
pub mod Formats
pub mod Regions
