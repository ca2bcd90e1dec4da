pub mod Rests
pub mod Descriptions
