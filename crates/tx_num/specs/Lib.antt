pub mod Ranges
pub mod Quotients
pub mod Fractions
pub mod Badness
pub mod Decimals
pub mod Laws
