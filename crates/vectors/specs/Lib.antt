pub mod Outcome
pub mod Files
pub mod Runs
pub mod Verdicts
pub mod Formulas
pub mod Classes
pub mod Agrees
pub mod Groups
