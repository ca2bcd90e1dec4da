pub mod Views
pub mod Places
pub mod Meanings
pub mod Environments
