pub mod Serials
pub mod RecordLemmas
pub mod BodyLemmas
pub mod StorableLemmas
pub mod Lengths
