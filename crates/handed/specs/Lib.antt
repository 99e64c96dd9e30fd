pub mod Files
pub mod Cursor
pub mod Reading
pub mod HandIn
