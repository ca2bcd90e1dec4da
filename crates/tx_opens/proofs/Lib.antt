pub mod Follows
pub mod Opens
