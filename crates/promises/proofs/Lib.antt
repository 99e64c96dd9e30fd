pub mod Refused
pub mod Areas
pub mod TypedPlans
pub mod Promises
pub mod ExamplePlans
pub mod Examples
pub mod JobExamples
