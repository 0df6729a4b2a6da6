pub mod Stored
pub mod Opening
pub mod Commands
pub mod Laws
