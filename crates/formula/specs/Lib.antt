pub mod Numbers
pub mod Answer
pub mod Readers
