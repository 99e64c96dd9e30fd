pub mod Bounded
pub mod Ranges
