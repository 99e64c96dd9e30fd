pub mod Fold
pub mod Filled
pub mod Nested
pub mod Forms
pub mod Named
pub mod Under
pub mod Depth
pub mod Examples
