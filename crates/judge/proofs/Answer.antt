-- The smallest set that the scan finds in the families of the whole process is the one that the definition finds in the plan's list of sets:
-- the two hold the same sets.
use mathlib.Core.Path.{◌≡◌, ap}
use mathlib.Core.Bool.{Bool, not}
use mathlib.Core.List.{List, Memᴰ}
use Prim.Native.Nat.{ℕ}
use Rattle.family.specs.Family.{In}
use Rattle.outcomes.proofs.ThreeLevels.{in_plan_sets, out_plan_sets}
use Rattle.plan.specs.Tree.{process_of}
use Rattle.meaning.specs.Value.{satisfies}
use Rattle.summary.specs.declared.Summary.{Summary}
use Rattle.summary.specs.Exact.{Exact}
use Rattle.sets.specs.PlanSets.{leaf_set, action_sets, sets_of}
use Rattle.least.specs.Least.{FinalSet, Finals, LeastOf}
use Rattle.std.specs.Prelude.{Option, Some, None}
use Rattle.judge.specs.Verdict.{smallest}
use borrow.Author.Tests.{not-true}
use Rattle.judge.proofs.Smallest.{Tells, smallest_tells, told_once}

module _ (types b : List ℕ) (root : Summary) (exact : Exact (leaf_set b) root (process_of types b)) where
  final_listed : (t : ℕ) → FinalSet root t → Memᴰ t (sets_of types b)
  final_listed t f = in_plan_sets (action_sets b) (process_of types b) f.status (f.code, f.final, (exact f.code t).0 f.has)

  listed_final : (t : ℕ) → Memᴰ t (sets_of types b) → FinalSet root t
  listed_final t m =
      let (status, p) = out_plan_sets (action_sets b) (process_of types b) m in
      let (code, final, i) = p in
      record { code = code; status = status; final = final; has = (exact code t).1 i }

  module _ (rule pairs f : List ℕ) (finals : Finals root f) where
    abbrev breaks : ℕ → Bool
    breaks t = not (satisfies rule pairs t)

    as_told : (x : Option ℕ) → LeastOf rule pairs f x → Tells breaks (In f) x
    as_told (Some u) s = record { is = s.has; holds = ap not s.breaks; least = λ t on k. s.least t on (not-true (satisfies rule pairs t) k) }
    as_told None s = λ t on. ap not (s t on)

    pub answer_found : (x : Option ℕ) → LeastOf rule pairs f x → x ≡ smallest breaks (sets_of types b)
    answer_found x s = told_once breaks (In f) (λ t. Memᴰ t (sets_of types b))
        (λ t on. final_listed t (finals.sound t on)) (λ t m. finals.complete t (listed_final t m))
        x (smallest breaks (sets_of types b)) (as_told x s) (smallest_tells breaks (sets_of types b))
