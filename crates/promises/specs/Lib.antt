pub mod Refused
pub mod Runner
pub mod Verdict
pub mod TypedPlans
pub mod Promises
pub mod Foundations
pub mod Examples
