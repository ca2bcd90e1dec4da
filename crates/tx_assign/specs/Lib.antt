pub mod Refusals
pub mod Values
pub mod Operations
pub mod Assigned
pub mod Changes
