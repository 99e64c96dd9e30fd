pub mod Entries
pub mod Reorder
