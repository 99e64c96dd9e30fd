pub mod RunLines
pub mod Lengths
pub mod Once
