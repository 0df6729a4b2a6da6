pub mod Sets
pub mod Changes
pub mod Spelling
pub mod Storable
pub mod Records
pub mod Refusals
pub mod Bodies
