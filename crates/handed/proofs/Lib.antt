pub mod Files
pub mod Reading
pub mod HandIn
