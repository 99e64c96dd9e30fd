pub mod Types
pub mod Pairs
pub mod Rule
