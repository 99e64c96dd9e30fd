pub mod Nodes
pub mod Places
pub mod Filling
