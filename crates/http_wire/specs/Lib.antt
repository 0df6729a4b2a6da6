pub mod Heads
pub mod Fields
pub mod Fronts
pub mod Streams
pub mod Dates
pub mod Responses
