pub mod Substitution
pub mod ParameterText
pub mod Outcome
pub mod Split
pub mod Typed
pub mod Laws
pub mod Settling
pub mod Matching
