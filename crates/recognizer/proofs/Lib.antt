pub mod Counts
pub mod Along
