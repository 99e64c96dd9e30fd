-- What the search answers of a plan and a set that some complete run leaves: the lesser of the bound and the fewest failed entries.
use mathlib.Core.Path.{◌≡◌, refl}
use mathlib.Core.Bool.{Bool, true, false}
use mathlib.Core.List.{List, [], ◌∷◌}
use Prim.Native.Nat.{ℕ, ◌+◌, ◌^◌, ◌≤◌, ◌<◌, min}
use native.Mathlib.Omega.{arith}
use borrow.Author.Tests.{eqb-true, eqb-false, eq-eqb, ne_eqb}
use lib.Dec.{eqb}
use lib.ListN.{length}
use Rattle.process.specs.Process.{ok, fail, entry, Run}
use Rattle.plan.specs.PlanFile.{most_actions, Runnable}
use Rattle.state.specs.State.{fresh_table}
use Rattle.reorder.specs.Entries.{failures}
use Rattle.fewest.specs.Costs.{unreached}
use Rattle.fewest.specs.Least.{LeastBelow}
use Rattle.fewest.specs.Leaving.{Searchable, Leaving}
use Rattle.fewest.proofs.Least.{only_least, least_lower}
use Rattle.fewest.proofs.Searching.{searched_least}
use Rattle.plainest.specs.Shown.{fewest_left, LeftBy}
use Rattle.plainest.proofs.Tables.{complete_short}
use Rattle.plainest.proofs.Left.{Searched, leaving_fresh}

few_failures : (r : Run) → failures r ≤ length r
few_failures [] = omega arith
few_failures (entry n ok ∷ r) = omega (arith, few_failures r)
few_failures (entry n fail ∷ r) = omega (arith, few_failures r)

-- the number asked for is met exactly where it is the fewest
pub same_test : (k x : ℕ) → eqb (min (k + 1) x) k ≡ eqb x k
same_test k x = go (eqb x k) refl
  where
    go : (q : Bool) → eqb x k ≡ q → eqb (min (k + 1) x) k ≡ q
    go true e =
        let z = eqb-true x k e in
        let same : min (k + 1) x ≡ k = omega arith in
        eq-eqb _ _ same
    go false e =
        let z = eqb-false x k e in
        let other : min (k + 1) x ≡ k → ⊥ = λ h. z (omega arith) in
        ne_eqb _ _ other

module _ (types b : List ℕ) (S : ℕ) (all : Searchable most_actions types b S) where
  least : (table : List ℕ) → length table ≡ 63 → LeastBelow unreached (Leaving types b S table) (fewest_left types b S table)
  least table h = searched_least most_actions types b S all table h

  pub asked : (bound : ℕ) (table : List ℕ) (x : ℕ) → bound ≤ unreached → length table ≡ 63 → LeastBelow bound (Leaving types b S table) x → x ≡ min bound (fewest_left types b S table)
  asked bound table x h l m = only_least bound (Leaving types b S table) x _ m (least_lower h (least table l))

module _ (types b : List ℕ) (plan : Runnable types b) (S : ℕ) (small : S < 2 ^ most_actions) where
  pub searchable : Searchable most_actions types b S
  searchable = record {
    plan = record {
      types_few = omega (arith, plan.types_few);
      types_hold = plan.types_hold;
      nodes_some = plan.nodes_some;
      nodes_few = plan.nodes_few;
      nodes_hold = plan.nodes_hold;
    };
    few = omega arith;
    within = small;
  }

  pub known : LeftBy types b S → Searched types b S (fewest_left types b S fresh_table)
  known r = record {
    plan = plan;
    least = least types b S searchable;
    fresh = refl;
    low = omega (arith, (least types b S searchable fresh_table refl).least (failures r.run) (leaving_fresh types b S r.run r.status r.complete r.leaves), few_failures r.run, complete_short types b plan r.run r.status r.complete);
  }

  -- where some complete run leaves the set, the search from the fresh table finds the fewest
  pub found : LeftBy types b S → (x : ℕ) → LeastBelow unreached (Leaving types b S fresh_table) x → (x ≡ fewest_left types b S fresh_table) × (x < unreached)
  found r x m =
      let low = (known r).low in
      let e = asked types b S searchable unreached fresh_table x (omega arith) refl m in
      (omega (arith, e, low), omega (arith, e, low))
