pub mod Fault
pub mod Windows
pub mod Hours
pub mod Kept
