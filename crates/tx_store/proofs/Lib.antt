mod ListLemmas
mod NameLemmas
mod SlotLemmas
