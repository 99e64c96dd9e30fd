-- The table of outcomes stands for the run so far, and the fold over the nodes tells what the cells of the plan's process tell.
use mathlib.Core.Path.{◌≡◌, refl, sym, ap, ap₂, fun_ext, ◌∙◌}
use mathlib.Core.Bool.{Bool, true, false, cond}
use mathlib.Core.List.{List, [], ◌∷◌, ◌++◌}
use Prim.Native.Nat.{ℕ, zero, suc, ◌-◌, ◌<◌}
use native.Mathlib.Omega.{arith}
use lib.Dec.{eqb}
use lib.ListN.{length, get_or, set, replicate, length-set}
use lib.Seq.{get_or-set_same, get_or-set_other}
use borrow.Author.Tests.{eqb-true, eqb-false}
use Rattle.process.specs.Process.{Status, ok, fail, entry, Run}
use Rattle.process.specs.Depth.{most_undos}
use Rattle.nodes.specs.Nodes.{count, form, left, right, Descending}
use Rattle.plan.specs.PlanFile.{Runnable}
use Rattle.plan.specs.Tree.{leaf_kind, leaf_of, composite_of, process_at, process_of}
use Rattle.nodes.proofs.Fold.{node_ind, fold_leaf, fold_node}
use Rattle.plan.proofs.Tree.{parts_smaller}
use Rattle.runs.specs.Cells.{Outcomes, ended_of, ending, none_run, outcomes_after, told_ended, told_next}
use Rattle.runs.specs.ThreeLevels.{told_three, cells_three}
use Rattle.runs.proofs.ThreeLevels.{three_levels_lem}
use Rattle.state.specs.State.{leaf_cells, node_cells, cells_at, told_by, fresh_table}
use Rattle.job.specs.Offer.{status_number}

-- the outcomes that a table has
abbrev pub outcomes : List ℕ → Outcomes
outcomes table n = ended_of (get_or table n 0)

-- the table stands for the run w
pub record Stands (w : Run) (table : List ℕ) : Type 0 where
  pub long : length table ≡ 63
  pub same : outcomes table ≡ outcomes_after none_run w

pub zeros_at : (m n : ℕ) → get_or {A = ℕ} (replicate m 0) n 0 ≡ 0
zeros_at zero n = refl
zeros_at (suc m) zero = refl
zeros_at (suc m) (suc n) = zeros_at m n

pub stands_fresh : Stands [] fresh_table
stands_fresh = record { long = refl; same = fun_ext (λ n. ap ended_of (zeros_at 63 n)) }

ending_of : (s : Status) → ended_of (status_number s) ≡ ending s
ending_of ok = refl
ending_of fail = refl

-- one entry more
pub stands_more : (w : Run) (table : List ℕ) (n : ℕ) (s : Status) → n < 63 → Stands w table → Stands (w ++ (entry n s ∷ [])) (set table n (status_number s))
stands_more w table n s h t = record {
  long = simp length-set t.long;
  same = fun_ext (λ i. at i (eqb n i) refl) ∙ sym (three_levels_lem.at_entry none_run w n s);
}
  where
    at : (i : ℕ) (q : Bool) → eqb n i ≡ q → outcomes (set table n (status_number s)) i ≡ cond q (ending s) (outcomes_after none_run w i)
    at i true e =
        let z = eqb-true n i e in
        rw (← z) (ap ended_of (get_or-set_same table n (status_number s) 0 (omega (arith, t.long))) ∙ ending_of s)
    at i false e =
        ap ended_of (get_or-set_other table n i (status_number s) 0 (λ z. eqb-false n i e (sym z))) ∙ ap (λ (f : Outcomes). f i) t.same

module _ (types b : List ℕ) (r : Runnable types b) where
  -- the fold over the nodes is the fold over the process
  cells_of : (table : List ℕ) (i : ℕ) → i < count b → cells_at b table i ≡ cells_three (outcomes table) (process_at types b i)
  cells_of table = node_ind b down (λ i. cells_at b table i ≡ cells_three (outcomes table) (process_at types b i))
      (λ i c f.
      fold_leaf (leaf_cells table) (node_cells b) b i f
      ∙ three_levels_lem.at_leaf (outcomes table) i (leaf_kind types b i) (omega (arith, r.nodes_few))
      ∙ ap (cells_three (outcomes table)) (sym (fold_leaf (leaf_of types b) (composite_of b) b i f)))
      (λ i c f x y.
      fold_node (leaf_cells table) (node_cells b) b down i c f
      ∙ ap₂ (node_cells b i) x y
      ∙ three_levels_lem.at_node (outcomes table) (form b i) (process_at types b (left b i)) (process_at types b (right b i))
      ∙ ap (cells_three (outcomes table)) (sym (fold_node (leaf_of types b) (composite_of b) b down i c f)))
    where
      down : Descending b
      down = parts_smaller types b r

  -- what is told by a table is what the cells tell of the run that it stands for
  pub told_of : (w : Run) (table : List ℕ) → Stands w table → told_by b table ≡ record { ended = told_ended most_undos (process_of types b) w; next = told_next most_undos (process_of types b) w }
  unfolding told_by
  told_of w table t =
      ap told_three (cells_of table (count b - 1) (omega (arith, r.nodes_some)) ∙ ap (λ (o : Outcomes). cells_three o (process_of types b)) t.same)
      ∙ three_levels_lem.at_root w (process_of types b)
