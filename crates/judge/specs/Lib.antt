pub mod Verdict
pub mod Shown
pub mod Judged
pub mod Record
pub mod Codes
pub mod Inner
pub mod Demand3
