pub mod Data
pub mod Lines
