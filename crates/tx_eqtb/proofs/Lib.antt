pub mod AddressLemmas
pub mod EntryLemmas
pub mod HeldLemmas
pub mod TableLemmas
