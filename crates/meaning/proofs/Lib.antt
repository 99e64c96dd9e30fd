pub mod Literal
pub mod Meaning
pub mod Laws
pub mod TriedRules
