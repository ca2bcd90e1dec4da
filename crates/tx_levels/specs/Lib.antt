pub mod Wholes
pub mod Levels
pub mod Agreement
pub mod Calls
pub mod Laws
