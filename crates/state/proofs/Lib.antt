pub mod Sides
pub mod May
pub mod Replays
pub mod LeafTypes
