-- What is promised of the outcome chart: it derives exactly the sets that complete runs leave, by Figure 2.
-- `OutcomeChart` is the statement; its proof is `outcome_chart`.
use Rattle.std.specs.Prelude.{◌↔◌, ℕ}
use Rattle.process.specs.Process.{Status, Process, Run}
use Rattle.process.specs.Figure2.{Complete}
use Rattle.outcomes.specs.Codes.{Code, Ends}
use Rattle.outcomes.specs.Sets.{Sets, Lawful, numbers, set_of, Leaves}
use Rattle.outcomes.specs.Chart.{InChart}
use Rattle.outcomes.specs.Families.{InPlan}
use Rattle.process.specs.Depth.{Flat}

pub record Exact (S : Sets) : Type 0 where
  -- Any undo depth: a set that is derived under a code that ends is the set of a complete run with that status.
  pub sound : (P : Process) (c : Code) (s : Status) (X : S.Set) → Ends c s → InChart S P c X → Leaves S P s X
  -- Any undo depth: the set of a complete run is derived under a code that ends with its status.
  pub complete : (P : Process) (r : Run) (s : Status) → Complete P r s → (c : Code) × Ends c s × InChart S P c (set_of S r)
  -- No compensation in an undo side: the sets that the 245 cells compute under 1 (status ok), and under 5 and 6 (status fail), are just
  -- those that some complete run with that status leaves.
  pub families : (P : Process) (s : Status) (X : S.Set) → Flat P → InPlan S P s X ↔ Leaves S P s X

pub record OutcomeChart : Type 1 where
  -- for any kind of set with a commutative union
  pub any_sets : (S : Sets) → Lawful S → Exact S
  -- for numbers with bitwise or, whatever number each leaf adds
  pub action_sets_lem : (single : ℕ → ℕ) → Exact (numbers single)
