pub mod TriedPlans
pub mod NestedPlans
