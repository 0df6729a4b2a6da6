pub mod Shape
pub mod Seen
pub mod Falls
pub mod Range
pub mod Numbered
pub mod Chunks
