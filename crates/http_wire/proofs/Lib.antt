pub mod LengthLemmas
pub mod HeadLemmas
pub mod FrontLemmas
pub mod StreamLemmas
pub mod NothingLemmas
pub mod DateLemmas
pub mod PhraseLemmas
pub mod ResponseLemmas
