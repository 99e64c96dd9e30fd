pub mod Says
pub mod Cells
pub mod Lengths
pub mod Tells
pub mod Room
pub mod Examples
