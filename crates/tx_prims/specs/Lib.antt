pub mod Keys
pub mod Rows
pub mod Primitives
pub mod Errors
