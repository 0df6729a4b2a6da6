pub mod Loading
pub mod Committing
pub mod Again
