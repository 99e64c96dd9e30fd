pub mod Wishes
pub mod Costs
pub mod Least
pub mod Leaving
pub mod Search
pub mod Fewest
