-- The sets of an accepted plan are those that its complete runs leave: the theorem on the codes of three levels, carried to the plan's bytes.
use mathlib.Core.Path.{◌≡◌, refl}
use mathlib.Core.List.{List, Memᴰ}
use mathlib.Core.Logic.{◌↔◌}
use Prim.Native.Nat.{ℕ}
use Rattle.process.specs.Process.{Status, Run}
use Rattle.process.specs.Figure2.{Complete}
use Rattle.outcomes.specs.Sets.{Leaves}
use Rattle.outcomes.specs.ThreeLevels.{InPlan3}
use Rattle.outcomes.proofs.ThreeLevels.{in_plan_sets, out_plan_sets}
use Rattle.outcomes.proofs.VerdictSets.{verdict_sets}
use Rattle.plan.specs.Reading.{bytes_of, read_of}
use Rattle.plan.specs.declared.Layout.{Layout}
use Rattle.plan.proofs.Demand1.{demand1}
use Rattle.job.specs.Demand2.{plan_process}
use Rattle.sets.specs.PlanSets.{leaf_set, action_sets}
use Rattle.std.specs.Prelude.{Ok}
use Rattle.judge.specs.Verdict.{plan_sets_of}
use Rattle.judge.specs.Shown.{run_set}

module _ (s : List ℕ) (l : Layout) (h : read_of s ≡ Ok l) where
  abbrev nodes : List ℕ
  nodes = bytes_of s l.nodes

  families : (status : Status) (t : ℕ) → InPlan3 (action_sets nodes) (plan_process s l) status t ↔ Leaves (action_sets nodes) (plan_process s l) status t
  families status t = (verdict_sets.action_sets_lem (leaf_set nodes)).three_levels_lem (plan_process s l) status t (demand1.tree s l h).shallow

  -- a set of the plan is left by a complete run
  pub left_by : (t : ℕ) → Memᴰ t (plan_sets_of s l) → (status : Status) × (run : Run) × Complete (plan_process s l) run status × (run_set s l run ≡ t)
  left_by t m = let (status, i) = out_plan_sets (action_sets nodes) (plan_process s l) m in
      let (run, c, e) = (families status t).0 i in
      (status, run, c, e)

  -- the set that a complete run leaves is one of the plan's
  pub run_set_listed : (run : Run) (status : Status) → Complete (plan_process s l) run status → Memᴰ (run_set s l run) (plan_sets_of s l)
  run_set_listed run status c = in_plan_sets (action_sets nodes) (plan_process s l) status ((families status (run_set s l run)).1 (run, c, refl))
