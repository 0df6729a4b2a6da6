pub mod Paths
pub mod Routes
pub mod Responses
pub mod Targets
pub mod Parameters
pub mod Asked
