pub mod WindowFrom
pub mod Earliest
pub mod LeafWindow
pub mod KeepsWindows
pub mod ReadsWindows
pub mod Kept
pub mod Examples
