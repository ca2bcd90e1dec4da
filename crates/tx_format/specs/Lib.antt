pub mod Presets
pub mod Codes
pub mod Parameters
pub mod States
pub mod Fillings
pub mod Formats
