pub mod TypesPairs
pub mod Most
pub mod Scan
pub mod Postfix
