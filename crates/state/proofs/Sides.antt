-- The two other bytes of a node are below the number of entries of a table of nodes: a composite names smaller nodes, and a leaf an action
-- or nothing.
use mathlib.Core.Path.{◌≡◌}
use mathlib.Core.Bool.{true, false}
use mathlib.Core.List.{List}
use mathlib.Core.Logic.{◌⊎◌, inl, inr}
use Prim.Native.Nat.{ℕ, ◌-◌, ◌≤◌, ◌<◌}
use native.Mathlib.Omega.{arith}
use lib.Dec.{eqb, ltb}
use borrow.Author.Tests.{eqb-true, eqb-false, ltb-true, ltb-false}
use Rattle.blocks.proofs.Bounded.{decide}
use Rattle.nodes.specs.Nodes.{count, form, left, right, Side, Names, Under}
use Rattle.nodes.proofs.Under.{first, all_under_last}
use Rattle.plan.proofs.Tree.{parts_smaller}
use Rattle.plan.specs.PlanFile.{RunnableWithin, Runnable}
use Rattle.plan.specs.Process.{runnable_within}
use Rattle.plan.proofs.Runnable.{runnable_of}

module _ {action_limit : ℕ} (low : action_limit ≤ 63) (types b : List ℕ) (r : RunnableWithin action_limit types b) (i : ℕ) (c : i < count b) where
  sides_small : (left b i < 63) × (right b i < 63)
  sides_small = go (decide (eqb (form b i) 0)) (decide (ltb (form b i) 3))
    where
      go : (eqb (form b i) 0 ≡ true) ⊎ (eqb (form b i) 0 ≡ false) → (ltb (form b i) 3 ≡ true) ⊎ (ltb (form b i) 3 ≡ false) → (left b i < 63) × (right b i < 63)
      go (inl e) s = let (x, y) = (r.nodes_hold.keep i c).action (eqb-true _ _ e) in (omega (arith, r.types_few), omega arith)
      go (inr e) (inl s) =
          let z = eqb-false (form b i) 0 e in
          let k = ltb-true (form b i) 3 s in
          let (x, y) = (r.nodes_hold.keep i c).plain (omega arith) (omega arith) in
          (omega arith, omega arith)
      go (inr e) (inr s) =
          let (x, y) = (r.nodes_hold.keep i c).parts (ltb-false (form b i) 3 s) in
          (omega (arith, r.nodes_few), omega (arith, r.nodes_few))

  pub left_small : left b i < 63
  left_small = sides_small.0

  pub right_small : right b i < 63
  right_small = sides_small.1

-- the same of what a process keeps
pub left_low : {limit : ℕ} (types b : List ℕ) (i : ℕ) → runnable_within limit types b ≡ true → limit ≤ 63 → i < count b → left b i < 63
left_low types b i t low c = left_small low types b (runnable_of t) i c

pub right_low : {limit : ℕ} (types b : List ℕ) (i : ℕ) → runnable_within limit types b ≡ true → limit ≤ 63 → i < count b → right b i < 63
right_low types b i t low c = right_small low types b (runnable_of t) i c

-- a leaf of a plan has a number below 62: the last of 63 nodes is a composite
pub leaf_small : (types b : List ℕ) → Runnable types b → (n : ℕ) → n < count b → form b n < 3 → n < 62
leaf_small types b r n c f = go (decide (ltb n 62))
  where
    last_composite : n ≡ 62 → (n ≡ 0) ⊎ ((s : Side) × (m : ℕ) × Names b n s m × Under b m 0) → ⊥
    last_composite e (inl z) = omega arith
    last_composite e (inr (s, m, k, u)) = omega (arith, k.composite)

    go : (ltb n 62 ≡ true) ⊎ (ltb n 62 ≡ false) → n < 62
    go (inl e) = ltb-true n 62 e
    go (inr e) =
        let h = ltb-false n 62 e in
        let is : n ≡ 62 = omega (arith, r.nodes_few) in
        let last : count b - 1 ≡ n = omega (arith, r.nodes_few) in
        absurd (last_composite is (first b (rw last at (all_under_last b (parts_smaller types b r) r.nodes_hold.once 0 (omega arith)))))
