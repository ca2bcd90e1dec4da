pub mod Tells
pub mod Calls
pub mod Shelves
pub mod Ports
pub mod Memory
pub mod Real
