pub mod ViewLemmas
pub mod OpenLemmas
pub mod MapLemmas
pub mod RunLemmas
