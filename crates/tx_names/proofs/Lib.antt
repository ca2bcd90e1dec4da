pub mod TextLemmas
pub mod NamingLemmas
