pub mod Bytes
pub mod Plainest
pub mod Greedy
pub mod Shown
