pub mod Line
pub mod Reply
pub mod Tried
