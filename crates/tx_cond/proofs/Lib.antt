pub mod SkipLemmas
