pub mod Pass
pub mod Count
