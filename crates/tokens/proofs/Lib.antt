pub mod Scan
pub mod Tokens
