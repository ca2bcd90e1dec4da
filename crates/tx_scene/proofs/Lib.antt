pub mod GroupLemmas
pub mod ErrorLemmas
pub mod TokenLemmas
pub mod HoldingLemmas
