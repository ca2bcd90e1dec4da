pub mod AgreementLemmas
pub mod AskedLemmas
pub mod AnswerLemmas
pub mod NameLemmas
pub mod BehindLemmas
pub mod TickLemmas
pub mod ListLemmas
