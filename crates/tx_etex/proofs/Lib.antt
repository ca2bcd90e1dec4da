pub mod TextLemmas
pub mod ValueLemmas
pub mod ProductLemmas
pub mod ReadingLemmas
pub mod StateLemmas
pub mod RigidLemmas
