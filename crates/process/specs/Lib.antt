pub mod Process
pub mod Figure2
pub mod Forms
pub mod Leaves
pub mod Depth
pub mod Traces
