pub mod Payloads
pub mod Numbered
pub mod Stands
pub mod Lists
pub mod Shown
pub mod Opening
