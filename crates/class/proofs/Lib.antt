pub mod Filling
pub mod Outcomes
pub mod Codes
pub mod Promises
pub mod Tried
