pub mod Entries
pub mod Lists
pub mod Seeing
pub mod Saying
pub mod Listing
pub mod Changing
pub mod Stays
pub mod Staying
