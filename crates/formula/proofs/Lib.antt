pub mod Steps
pub mod Chains
pub mod Turning
pub mod Answers
