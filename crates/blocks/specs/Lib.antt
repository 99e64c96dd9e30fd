pub mod Bounded
pub mod Block
pub mod Area
