pub mod More
pub mod Every
