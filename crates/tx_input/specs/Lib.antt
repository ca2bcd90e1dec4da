pub mod Spent
pub mod Unread
pub mod Texts
pub mod Owned
pub mod Worlds
pub mod Stepping
pub mod Takings
