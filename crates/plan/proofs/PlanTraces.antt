-- The traces of a plan, from the theorem on those of any process: a leaf's kind is that of its atomic action, by the cases of its form, and the plan's
-- process as the report writes it is another fold over the same nodes.
use mathlib.Core.Path.{◌≡◌, refl, subst}
use mathlib.Core.Bool.{Bool, true, false, cond}
use mathlib.Core.List.{List}
use mathlib.Core.Logic.{◌↔◌}
use Prim.Native.Nat.{ℕ, zero, suc, ◌-◌}
use lib.Dec.{ltb, eqb}
use lib.ListN.{get_or}
use Rattle.process.specs.Process.{Status, finishes, fails}
use Rattle.process.specs.Forms.{form_of}
use Rattle.process.specs.Traces.{skip, throw, action, Term, atom, compose, kind_of, Trace, Whole, term_of, Labelled, StruckComplete}
use Rattle.process.proofs.Traces.{traces_are_runs}
use Rattle.nodes.specs.Nodes.{count, form, left, right}
use Rattle.nodes.specs.Fold.{fold_from}
use Rattle.nodes.proofs.Fold.{fold_map}
use Rattle.plan.specs.Tree.{type_kind, leaf_kind, leaf_of, composite_of, process_of}
use Rattle.plan.specs.Traces.{atom_of, kinds_of, plan_term, PlanTraces}

module _ (types b : List ℕ) where
  leaf_labelled : (i : ℕ) → leaf_kind types b i ≡ kind_of (kinds_of types) (atom_of b i)
  leaf_labelled i = by (eqb (form b i) 0) (eqb (form b i) 1)
    where
      by : (x y : Bool) → cond x (type_kind (get_or types (left b i) 0)) (cond y finishes fails) ≡ kind_of (kinds_of types) (cond x (action (left b i)) (cond y skip throw))
      by true y = refl
      by false true = refl
      by false false = refl

  labelled : (k i : ℕ) → Labelled (kinds_of types) (atom_of b) (fold_from (leaf_of types b) (composite_of b) b k i)
  unfolding fold_from
  labelled zero i = leaf_labelled i
  labelled (suc k) i = by (ltb (form b i) 3) (labelled k (left b i)) (labelled k (right b i))
    where
      by : (t : Bool) → Labelled (kinds_of types) (atom_of b) (fold_from (leaf_of types b) (composite_of b) b k (left b i))
          → Labelled (kinds_of types) (atom_of b) (fold_from (leaf_of types b) (composite_of b) b k (right b i))
          → Labelled (kinds_of types) (atom_of b) (cond t (leaf_of types b i) (composite_of b i (fold_from (leaf_of types b) (composite_of b) b k (left b i)) (fold_from (leaf_of types b) (composite_of b) b k (right b i))))
      by true l r = leaf_labelled i
      by false l r = (l, r)

  plan_labelled : Labelled (kinds_of types) (atom_of b) (process_of types b)
  plan_labelled = labelled (suc (count b - 1)) (count b - 1)

  plan_term_lem : term_of (atom_of b) (process_of types b) ≡ plan_term b
  plan_term_lem =
      fold_map (term_of (atom_of b)) (leaf_of types b) (composite_of b) (λ i. atom (atom_of b i)) (λ i P Q. compose (form_of (form b i)) P Q) b
      (λ i. refl) (λ i P Q. refl) (suc (count b - 1)) (count b - 1)

  whole_traces : (t : Trace) (s : Status) → Whole (kinds_of types) (plan_term b) t s ↔ StruckComplete (atom_of b) (process_of types b) t s
  whole_traces t s =
      subst (λ (T : Term). Whole (kinds_of types) T t s ↔ StruckComplete (atom_of b) (process_of types b) t s) plan_term_lem
      (traces_are_runs.complete (kinds_of types) (atom_of b) (process_of types b) plan_labelled t s)

pub plan_traces : PlanTraces
plan_traces = record { labelled = plan_labelled; term = plan_term_lem; traces = whole_traces }
