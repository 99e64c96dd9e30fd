pub mod Cells
pub mod Beginnings
pub mod ThreeLevels
