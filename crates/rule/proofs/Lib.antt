pub mod Shared
pub mod Words
pub mod Gathered
pub mod Places
pub mod Scan
