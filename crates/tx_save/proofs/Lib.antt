pub mod UpdateLemmas
pub mod SaveLemmas
pub mod StackLemmas
