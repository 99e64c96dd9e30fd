-- The theorems, from the crates that prove them.
use Rattle.runs.proofs.Beginnings.{beginnings}
use Rattle.outcomes.proofs.OutcomeChart.{outcome_chart}
use Rattle.outcomes.proofs.VerdictSets.{verdict_sets}
use Rattle.theorems.specs.Theorems.{Theorems}

pub theorems : Theorems
theorems = record { beginnings = beginnings; outcomes = outcome_chart; sets = verdict_sets }
