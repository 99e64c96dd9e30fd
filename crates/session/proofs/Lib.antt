pub mod Hearing
pub mod Numbers
pub mod Entries
pub mod Answers
