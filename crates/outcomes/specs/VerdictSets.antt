-- What is promised of the sets of three levels, which the verdict computes: they are just those that complete runs leave, for undos up to two deep; and of a plan
-- without a compensation in an undo side they are those of document 01's chart. `VerdictSets` is the statement; its proof is `verdict_sets`.
use Rattle.std.specs.Prelude.{◌≡◌, ◌↔◌, ℕ, ◌≤◌, ◌<◌}
use mathlib.Core.List.{Memᴰ}
use Rattle.process.specs.Process.{Status, Form, Process}
use Rattle.process.specs.Forms.{form_number}
use Rattle.process.specs.Depth.{undo_depth, Flat, Shallow}
use Rattle.outcomes.specs.Sets.{Sets, Lawful, numbers, Leaves}
use Rattle.outcomes.specs.Cells.{cell}
use Rattle.outcomes.specs.LevelCells.{cell_at}
use Rattle.outcomes.specs.Families.{InPlan}
use Rattle.outcomes.specs.ThreeLevels.{InPlan3, plan_sets}
use Rattle.outcomes.specs.AnyLevels.{InPlanAt}

pub record ExactSets (S : Sets) : Type 0 where
  -- any number of levels, with every code
  pub any_levels_lem : (n : ℕ) (P : Process) (s : Status) (X : S.Set) → undo_depth P ≤ n → InPlanAt n S P s X ↔ Leaves S P s X
  -- three levels, the settled codes alone
  pub three_levels_lem : (P : Process) (s : Status) (X : S.Set) → Shallow P → InPlan3 S P s X ↔ Leaves S P s X
  -- the list by which the verdict is defined has just these
  pub listed : (P : Process) (X : S.Set) → Memᴰ X (plan_sets S P) ↔ ((s : Status) × InPlan3 S P s X)
  -- where document 01's chart is for the plan, both have the same sets
  pub same_as_chart : (P : Process) (s : Status) (X : S.Set) → Flat P → InPlan3 S P s X ↔ InPlan S P s X

pub record VerdictSets : Type 1 where
  -- for any kind of set with a commutative union
  pub any_sets : (S : Sets) → Lawful S → ExactSets S
  -- for numbers with bitwise or, whatever number each leaf adds
  pub action_sets_lem : (single : ℕ → ℕ) → ExactSets (numbers single)
  -- both are charts of one kind: each of document 01's 245 cells is that of two levels, by the rules of `Join`, as the verdict's are of three
  pub document_cells : (f : Form) (l r : ℕ) → l < 7 → r < 7 → cell (form_number f) l r ≡ cell_at 1 f l r
