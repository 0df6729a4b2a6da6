pub mod Parts
pub mod Fields
pub mod Payloads
pub mod Commands
pub mod Entries
pub mod Loop
pub mod Lengths
pub mod Worked
