-- What the wishes of a set and a table say of a complete run of a plan: it has the outcomes of the table, and no action outside the set finished. As no leaf
-- has two outcomes in a run, the one that it must have leaves no other.
use mathlib.Core.Path.{◌≡◌, refl, sym}
use mathlib.Core.Bool.{Bool, true, false, not, ◌&&◌, true≢false}
use mathlib.Core.List.{List}
use mathlib.Core.Logic.{◌⊎◌, inl, inr}
use Prim.Native.Nat.{ℕ, zero, suc, ◌<◌}
use native.Mathlib.Omega.{arith}
use borrow.Author.Tests.{eqb-true, ltb-true}
use lib.Dec.{eqb, ltb}
use Rattle.blocks.proofs.Bounded.{both_hold}
use Rattle.process.specs.Process.{Status, ok, fail, entry, Run}
use Rattle.process.specs.Figure2.{Complete}
use Rattle.nodes.specs.Nodes.{count, form}
use Rattle.plan.specs.Tree.{process_of}
use Rattle.plan.specs.Demand1.{Drawn}
use Rattle.reorder.specs.Entries.{Occurs}
use Rattle.reorder.proofs.Leaves.{complete_leaf}
use Rattle.fewest.specs.Wishes.{wished, Ran, Meets}
use Rattle.fewest.specs.Leaving.{outcome_at, Has}
use Rattle.fewest.specs.Search.{welcome, wish_of, wishes}
use Rattle.fewest.proofs.Sets.{Welcomed}
use Rattle.fewest.proofs.Once.{one_outcome}

-- a leaf that may not be absent and may have one outcome only has it
module _ {n : ℕ} {r : Run} (w : Bool) (o : ℕ) (entries : (s : Status) → Occurs (entry n s) r → wished (wish_of w o) s ≡ true) where
  must_finish : o ≡ 1 → Ran n r ⊎ (eqb o 0 ≡ true) → Occurs (entry n ok) r
  must_finish e (inl (ok, x)) = x
  must_finish e (inl (fail, x)) = let f : not (eqb 1 1) ≡ true = rw e at (entries fail x) in absurd (true≢false (sym f))
  must_finish e (inr a) = absurd (omega (arith, eqb-true o 0 a))

  must_fail : ¬ (o ≡ 0) → ¬ (o ≡ 1) → Ran n r ⊎ (eqb o 0 ≡ true) → Occurs (entry n fail) r
  must_fail d e (inl (ok, x)) = absurd (let l = ltb-true o 2 (both_hold (ltb o 2) w (entries ok x)).0 in omega arith)
  must_fail d e (inl (fail, x)) = x
  must_fail d e (inr a) = absurd (d (eqb-true o 0 a))

-- a leaf's outcomes against its wishes
may_finish : (w : Bool) (o : ℕ) → w ≡ true → (¬ (o ≡ 0) → ¬ (o ≡ 1) → ⊥) → (ltb o 2 && w) ≡ true
may_finish w zero h f = h
may_finish w (suc zero) h f = h
may_finish w (suc (suc o)) h f = absurd (f (λ e. omega arith) (λ e. omega arith))

may_fail : (o : ℕ) → ¬ (o ≡ 1) → not (eqb o 1) ≡ true
may_fail o f = go (eqb o 1) refl
  where
    go : (b : Bool) → eqb o 1 ≡ b → not b ≡ true
    go true e = absurd (f (eqb-true o 1 e))
    go false e = refl

module _ (types b : List ℕ) (tree : Drawn types b) (S : ℕ) (table : List ℕ) {r : Run} where
  pub meets_has : Meets (wishes b S table) (process_of types b) r → Has b table r
  meets_has a = record {
    finished = λ n l p e. must_finish (welcome b S n) (outcome_at table n) (a.entries n) e (a.others n ((tree.leaves n).1 (l, p)));
    failed = λ n l p d e. must_fail (welcome b S n) (outcome_at table n) (a.entries n) d e (a.others n ((tree.leaves n).1 (l, p)));
  }

  pub meets_welcomed : Meets (wishes b S table) (process_of types b) r → Welcomed b S r
  meets_welcomed a = record { each = λ n x. (both_hold (ltb (outcome_at table n) 2) (welcome b S n) (a.entries n ok x)).1 }

  pub has_meets : {s : Status} → Complete (process_of types b) r s → Has b table r → Welcomed b S r → Meets (wishes b S table) (process_of types b) r
  has_meets c h w = record { entries = λ n s x. entries n s x ((tree.leaves n).0 (complete_leaf c x)); others = λ n l. others n (outcome_at table n) refl ((tree.leaves n).0 l) }
    where
      one : (n : ℕ) → Occurs (entry n ok) r → Occurs (entry n fail) r → ⊥
      one = one_outcome (process_of types b) tree.written tree.distinct tree.shallow c

      entries : (n : ℕ) (s : Status) → Occurs (entry n s) r → (n < count b) × (form b n < 3) → wished (wishes b S table n) s ≡ true
      entries n ok x (l, p) = may_finish (welcome b S n) (outcome_at table n) (w.each n x) (λ d e. one n x (h.failed n l p d e))
      entries n fail x (l, p) = may_fail (outcome_at table n) (λ e. one n (h.finished n l p e) x)

      others : (n o : ℕ) → outcome_at table n ≡ o → (n < count b) × (form b n < 3) → Ran n r ⊎ (eqb (outcome_at table n) 0 ≡ true)
      others n zero e (l, p) = inr (rw e)
      others n (suc zero) e (l, p) = inl (ok, h.finished n l p e)
      others n (suc (suc o)) e (l, p) = inl (fail, h.failed n l p (λ f. omega arith) (λ f. omega arith))
