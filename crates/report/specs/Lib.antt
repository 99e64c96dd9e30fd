pub mod Lines
pub mod Tells
