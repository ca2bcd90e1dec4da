pub mod WholeLemmas
pub mod AgreementLemmas
