pub mod Words
pub mod Stack
