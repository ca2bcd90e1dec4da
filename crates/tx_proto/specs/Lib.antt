pub mod Parts
pub mod Requests
pub mod Headers
pub mod Texts
pub mod Written
