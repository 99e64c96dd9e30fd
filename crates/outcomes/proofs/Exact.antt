-- The chart is exact, for any undo_depth of undos and any kind of set: what it derives under a code, the levels of that code leave, and back.
-- A derivation is read off as levels by `join_levels`; levels are split at each node into those of its sides.
use mathlib.Core.Path.{◌≡◌, refl, sym, ◌∙◌, ap, ap₂}
use mathlib.Core.Bool.{true}
use mathlib.Core.List.{List, [], ◌∷◌}
use Rattle.process.specs.Process.{Status, Process, done, leaf, node, entry, Run}
use Rattle.process.specs.Figure2.{f_done, f_leaf, Complete}
use Rattle.outcomes.specs.Codes.{Code, Ends}
use Rattle.outcomes.specs.Sets.{Sets, Lawful, added, set_of, Leaves}
use Rattle.outcomes.specs.Chart.{InChart, in_none, in_done, in_leaf, in_node}
use Rattle.outcomes.proofs.Interleavings.{interleaved_set}
use Rattle.outcomes.proofs.Levels.{Levels, l_none, l_run, whole, complete_run, levels_of, joined, joined_interleaves, join_levels, parts, split}

module _ (S : Sets) (laws : Lawful S) where
  pub derivation_levels : {P : Process} {c : Code} {X : S.Set} → InChart S P c X → (rs : List Run) × Levels P c rs × (set_of S (whole rs) ≡ X)
  derivation_levels in_none = ([], l_none, refl)
  derivation_levels (in_done i) = let (rs, l, x) = derivation_levels i in ([] ∷ rs, l_run f_done l, x)
  derivation_levels (in_leaf {n = n} {s = s} a i) = let (rs, l, x) = derivation_levels i in ((entry n s ∷ []) ∷ rs, l_run (f_leaf a) l, ap (S.union (added S (entry n s))) x)
  derivation_levels (in_node {f = f} i k j z) =
      let (ps, l, x) = derivation_levels i in
      let (qs, m, y) = derivation_levels k in
      (joined f true ps qs, join_levels j l m, interleaved_set S laws (joined_interleaves f true ps qs) ∙ ap₂ S.union x y ∙ z)

  derived_done : {c : Code} {rs : List Run} → Levels done c rs → InChart S done c (set_of S (whole rs))
  derived_done l_none = in_none
  derived_done (l_run f_done l) = in_done (derived_done l)

  pub derived : (P : Process) {c : Code} {rs : List Run} → Levels P c rs → InChart S P c (set_of S (whole rs))
  derived done l = derived_done l
  derived (leaf n k) l_none = in_none
  derived (leaf n k) (l_run (f_leaf a) l) = in_leaf a (derived_done l)
  derived (node f P Q) l = elim (split l) [ parts m k j i ↦ in_node (derived P m) (derived Q k) j (sym (interleaved_set S laws i)) ]

  pub sound : {P : Process} {c : Code} {s : Status} {X : S.Set} → Ends c s → InChart S P c X → Leaves S P s X
  sound e i = let (rs, l, x) = derivation_levels i in (whole rs, complete_run e l, x)

  pub complete : {P : Process} {r : Run} {s : Status} → Complete P r s → (c : Code) × Ends c s × InChart S P c (set_of S r)
  complete {P} d = let (c, rs, e, l, x) = levels_of d in (c, e, rw x at (derived P l))
