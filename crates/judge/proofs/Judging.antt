-- What comes of judging a plan whose summaries are in the work area: the answer is the defined one, and beside it is its run.
use mathlib.Core.Path.{◌≡◌, ap, subst}
use mathlib.Core.List.{List}
use Prim.Native.Nat.{ℕ}
use Rattle.nodes.specs.Nodes.{count}
use Rattle.plan.specs.PlanFile.{Runnable}
use Rattle.summary.specs.declared.Summary.{Summary}
use Rattle.sets.specs.Fill.{Filled}
use Rattle.sets.specs.Places.{place}
use Rattle.sets.proofs.Places.{few_composites}
use Rattle.least.specs.Least.{Finals, LeastOf}
use Rattle.std.specs.Prelude.{Option, Some}
use Rattle.plainest.specs.Shown.{LeftBy}
use Rattle.judge.specs.Verdict.{answer_of}
use Rattle.judge.specs.Inner.{RunFor, JudgedPlan}
use Rattle.judge.proofs.Answer.{answer_found}
use Rattle.judge.proofs.Areas.{kept_past}
use Rattle.judge.proofs.Plain.{left_final}

module _ (types pairs b rule old new : List ℕ) (r : Runnable types b) (root : Summary) (filled : Filled types b old new root) (f : List ℕ) (finals : Finals root f) where
  -- the set that was found is left by some run
  pub found_left : (x : Option ℕ) (set : ℕ) → x ≡ Some set → LeastOf rule pairs f x → LeftBy types b set
  found_left x set e least = left_final types b r root filled.whole set (finals.sound set (subst (LeastOf rule pairs f) e least).has)

  pub judged_plan : (x y : Option ℕ) (run : List ℕ) → x ≡ y → LeastOf rule pairs f x → RunFor types b (answer_of y) run → JudgedPlan types pairs b rule old new (answer_of y) run
  judged_plan x y run e least beside = record {
    answer = ap answer_of (answer_found types b root filled.whole rule pairs f finals y (subst (LeastOf rule pairs f) e least));
    beside = beside;
    long = filled.long;
    kept = kept_past (place b (count b)) (few_composites types b r) old new filled.long filled.kept;
  }
