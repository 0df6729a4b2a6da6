pub mod Order
pub mod AtFork
pub mod Inserted
pub mod Heights
pub mod Removed
pub mod Ranges
pub mod Numbered
pub mod Chunks
