pub mod Values
pub mod Later
pub mod Seen
