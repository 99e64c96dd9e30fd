pub mod Place
pub mod Work
