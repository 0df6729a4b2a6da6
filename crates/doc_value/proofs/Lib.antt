pub mod RoundTrip
pub mod Reading
pub mod Writing
pub mod Depths
pub mod Worked
pub mod Parts
pub mod Limits
