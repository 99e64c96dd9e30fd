pub mod Nodes
pub mod Node
pub mod Fold
pub mod NodeTests
