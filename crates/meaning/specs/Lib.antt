pub mod Literal
pub mod Meaning
pub mod Value
pub mod Laws
pub mod TriedRules
