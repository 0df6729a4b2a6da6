mod Worked
pub mod Found
pub mod Parts
pub mod Table
pub mod Branches
