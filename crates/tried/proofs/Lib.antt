pub mod CompleteRuns
pub mod ShownLines
pub mod TriedPlans
