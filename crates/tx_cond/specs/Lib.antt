pub mod Skips
pub mod Laws
