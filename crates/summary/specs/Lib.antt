pub mod Summary
pub mod Node
pub mod Gathered
pub mod Marks
pub mod Exact
