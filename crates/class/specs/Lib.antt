pub mod Outcome
pub mod Computed
pub mod Steps
pub mod Promises
pub mod Tried
