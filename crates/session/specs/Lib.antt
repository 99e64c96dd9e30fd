pub mod Line
pub mod Session
pub mod Entries
pub mod Answers
