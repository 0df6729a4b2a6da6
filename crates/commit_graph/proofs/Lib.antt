pub mod Lists
pub mod Ancestors
pub mod Reached
pub mod Meeting
pub mod Adding
