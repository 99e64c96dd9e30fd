-- What it says of an entry that it may come: its leaf is a node of the plan.
use mathlib.Core.Path.{◌≡◌}
use mathlib.Core.Bool.{true}
use mathlib.Core.List.{List}
use Prim.Native.Nat.{ℕ, ◌<◌}
use native.Mathlib.Omega.{arith}
use borrow.Author.Tests.{ltb-true}
use Rattle.blocks.proofs.Bounded.{both_true}
use Rattle.nodes.specs.Nodes.{count, form}
use Rattle.plan.specs.PlanFile.{Runnable}
use Rattle.state.proofs.Sides.{leaf_small}
use Rattle.state.specs.State.{leaf_permits, may_come}

pub permits_present : (types b : List ℕ) (n outcome : ℕ) → leaf_permits types b n outcome ≡ true → n < count b
unfolding leaf_permits
permits_present types b n outcome h = ltb-true _ _ (both_true _ _ h).0

-- it is a leaf, and so not the last of 63 nodes
pub comes_leaf : (types b table : List ℕ) (n outcome : ℕ) → Runnable types b → may_come types b table n outcome ≡ true → n < 62
unfolding may_come leaf_permits
comes_leaf types b table n outcome r h =
    let (c, q) = both_true _ _ (both_true _ _ h).0 in
    leaf_small types b r n (ltb-true n (count b) c) (ltb-true (form b n) 3 (both_true _ _ q).0)

pub comes_small : (types b table : List ℕ) (n outcome : ℕ) → Runnable types b → may_come types b table n outcome ≡ true → n < 63
unfolding may_come
comes_small types b table n outcome r h = omega (arith, r.nodes_few, permits_present types b n outcome (both_true _ _ h).0)
