pub mod Id
pub mod Outside
pub mod Failing
pub mod InMemory
pub mod Streams
pub mod Calendar
pub mod Civil
pub mod Moment
