pub mod Texts
pub mod Expressions
pub mod Readings
pub mod Laws
pub mod Bounds
pub mod Signs
pub mod Values
pub mod States
