pub mod Scan
pub mod Whole
