pub mod MemoryLemmas
pub mod RealLemmas
