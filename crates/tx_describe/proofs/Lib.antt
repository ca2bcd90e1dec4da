pub mod HexadecimalLemmas
pub mod PrintLemmas
