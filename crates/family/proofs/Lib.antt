pub mod Numbers
pub mod Bits
pub mod Words
pub mod Lowest
pub mod Patterns
