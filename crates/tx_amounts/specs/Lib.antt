pub mod Automata
pub mod Backs
pub mod Scanning
pub mod Names
