pub mod Codes
pub mod Leaves
pub mod Rows
pub mod Marking
pub mod Unions
pub mod Exact
