-- The summary of a node is exact: a leaf's by its kind and its set, a composite's from those of its parts.
use mathlib.Core.Path.{◌≡◌, refl}
use mathlib.Core.Bool.{Bool, true, false, not, cond}
use mathlib.Core.List.{List}
use Prim.Native.Nat.{ℕ, ◌^◌, ◌≤◌, ◌<◌}
use native.Mathlib.Omega.{arith}
use lib.Dec.{eqb, ltb, ltb→lt}
use borrow.Author.Tests.{eqb-true}
use Rattle.family.proofs.Numbers.{at_number}
use Rattle.outcomes.specs.ThreeLevels.{cell3}
use Rattle.nodes.specs.Nodes.{count, form, left, right}
use Rattle.plan.specs.PlanFile.{Runnable}
use Rattle.plan.specs.Tree.{leaf_kind, process_at}
use Rattle.plan.proofs.Tree.{process_leaf, process_node, parts_smaller}
use Rattle.state.specs.State.{leaf_type}
use Rattle.state.proofs.LeafTypes.{type_finishes, type_fails, kind_type}
use Rattle.summary.specs.declared.Summary.{Summary}
use Rattle.summary.specs.Summary.{LeafSummary}
use Rattle.summary.specs.Node.{NodeSummary}
use Rattle.summary.specs.Exact.{Exact}
use Rattle.summary.proofs.Exact.{computes}
use Rattle.sets.specs.PlanSets.{leaf_set}

-- an action's bit is below 1,024
bit_small : (a : ℕ) → a < 10 → 2 ^ a < 1024
bit_small a h = ltb→lt _ _ (at_number 10 (λ a. ltb (2 ^ a) 1024) tt a h)

module _ (types b : List ℕ) (r : Runnable types b) (n : ℕ) (c : n < count b) where
  pub action_small : form b n ≡ 0 → left b n < 10
  action_small e = let (l, z) = (r.nodes_hold.keep n c).action e in omega (arith, r.types_few)

  pub set_small : leaf_set b n < 1024
  set_small = go (eqb (form b n) 0) refl
    where
      go : (z : Bool) → eqb (form b n) 0 ≡ z → cond z (2 ^ left b n) 0 < 1024
      go true e = bit_small (left b n) (action_small (eqb-true _ _ e))
      go false e = omega arith

  pub leaf_exact : (s : Summary) → form b n < 3 → LeafSummary (leaf_set b n) (not (eqb (leaf_type types b n) 2)) (not (eqb (leaf_type types b n) 1)) s → Exact (leaf_set b) s (process_at types b n)
  leaf_exact s f l =
      let k = leaf_kind types b n in
      let t = kind_type types b n f in
      rw (process_leaf types b (parts_smaller types b r) n f)
      (computes.of_leaf (leaf_set b) n k s set_small (rw (t, type_finishes (leaf_type types b n), type_fails (leaf_type types b n)) l))

  pub node_exact : (x y s : Summary) → 3 ≤ form b n → Exact (leaf_set b) x (process_at types b (left b n)) → Exact (leaf_set b) y (process_at types b (right b n))
      → NodeSummary (cell3 (form b n)) x y s → Exact (leaf_set b) s (process_at types b n)
  node_exact x y s f p q u =
      rw (process_node types b (parts_smaller types b r) n c f)
      (computes.of_node (leaf_set b) (form b n) _ _ x y s f (r.nodes_hold.keep n c).known p q u)
