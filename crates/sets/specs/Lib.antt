pub mod PlanSets
pub mod Places
pub mod Fill
