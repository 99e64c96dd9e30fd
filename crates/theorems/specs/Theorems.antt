-- The theorems on Figure 2 that the product rests on, each for undos of any depth, and for the depth that the code's numbers serve. `theorems` in proofs/ proves them.
use Rattle.runs.specs.Beginnings.{BeginningsTold}
use Rattle.outcomes.specs.OutcomeChart.{OutcomeChart}
use Rattle.outcomes.specs.VerdictSets.{VerdictSets}

pub record Theorems : Type 1 where
  -- the runner's: after a beginning of a run the cells tell exactly what may come next, and exactly how the run may end, and never both
  pub beginnings : BeginningsTold
  -- the chart's: the outcome chart derives exactly the sets of actions that complete runs leave
  pub outcomes : OutcomeChart
  -- the verdict's: its settled codes of three levels have exactly these sets too, and those of the chart where that is for the plan
  pub sets : VerdictSets
