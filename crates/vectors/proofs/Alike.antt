-- How many bytes are alike, by the first that is not.
use mathlib.Core.Path.{◌≡◌, refl, sym, ◌∙◌}
use mathlib.Core.Bool.{Bool, true, false, not, cond}
use mathlib.Core.List.{List}
use mathlib.Core.Logic.{◌⊎◌, inl, inr}
use Prim.Native.Nat.{ℕ, zero, suc, ◌+◌, ◌≤◌, ◌<◌}
use native.Mathlib.Omega.{arith}
use lib.Dec.{eqb}
use lib.ListN.{get_or}
use borrow.Author.Tests.{eqb-true, eqb-false}
use Rattle.std.specs.Prelude.{Option, Some, None, unwrap_or}
use Rattle.std.specs.Option.{MatchOption}
use Rattle.blocks.proofs.Bounded.{decide}
use Rattle.vectors.specs.Outcome.{alike}

module _ (shown body : List ℕ) (at : ℕ) where
  -- byte i is another
  abbrev pub differs : ℕ → Bool
  differs i = not (eqb (get_or shown i 0) (get_or body (at + i) 0))

  next_alike : (m i : ℕ) → differs i ≡ false → alike (suc m) i shown body at ≡ alike m (suc i) shown body at
  unfolding alike
  next_alike m i h = go (eqb (get_or shown i 0) (get_or body (at + i) 0)) h
    where
      go : (t : Bool) → not t ≡ false → cond t (alike m (suc i) shown body at) i ≡ alike m (suc i) shown body at
      go true e = refl
      go false e = cc

  none_alike : (m i : ℕ) → differs i ≡ true → alike (suc m) i shown body at ≡ i
  unfolding alike
  none_alike m i h = go (eqb (get_or shown i 0) (get_or body (at + i) 0)) h
    where
      go : (t : Bool) → not t ≡ true → cond t (alike m (suc i) shown body at) i ≡ i
      go true e = cc
      go false e = refl

  all_alike : (m i : ℕ) → ((k : ℕ) → k < i + m → differs k ≡ false) → alike m i shown body at ≡ i + m
  unfolding alike
  all_alike zero i h = omega arith
  all_alike (suc m) i h = next_alike m i (h i (omega arith)) ∙ all_alike m (suc i) (λ k l. h k (omega arith)) ∙ omega arith

  alike_up_to : (m i k : ℕ) → i ≤ k → k < i + m → ((j : ℕ) → j < k → differs j ≡ false) → differs k ≡ true → alike m i shown body at ≡ k
  alike_up_to zero i k l n h d = absurd (omega arith)
  alike_up_to (suc m) i k l n h d = go (decide (eqb i k)) (alike_up_to m (suc i) k)
    where
      go : (eqb i k ≡ true) ⊎ (eqb i k ≡ false) → (suc i ≤ k → k < suc i + m → ((j : ℕ) → j < k → differs j ≡ false) → differs k ≡ true → alike m (suc i) shown body at ≡ k)
          → alike (suc m) i shown body at ≡ k
      go (inl e) rest = let same = eqb-true i k e in none_alike m i (rw same d) ∙ same
      go (inr e) rest =
          let other = eqb-false i k e in
          let later : i < k = omega (arith, other) in
          next_alike m i (h i later) ∙ rest (omega arith) (omega arith) h d

  -- what finding the first that differs answers
  pub alike_found : (n : ℕ) (r : Option ℕ) → MatchOption r ((k : ℕ) → k < n → differs k ≡ false) (λ i. (i < n) × (differs i ≡ true) × ((k : ℕ) → k < i → differs k ≡ false))
      → unwrap_or r n ≡ alike n 0 shown body at
  alike_found n None h = sym (all_alike n 0 (λ k l. h k (omega arith)) ∙ omega arith)
  alike_found n (Some i) h = sym (alike_up_to n 0 i (omega arith) (omega (arith, h.0)) h.2 h.1)
