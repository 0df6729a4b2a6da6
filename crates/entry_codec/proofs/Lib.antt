pub mod Drawn
pub mod Stability
mod Worked
mod WorkedBranches
