pub mod Addresses
pub mod Meanings
pub mod Tables
pub mod Steps
pub mod Sample
