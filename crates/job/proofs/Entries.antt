-- The bytes of a record: one entry more is written past those that are there, and the bytes past it stay 0.
use mathlib.Core.Path.{◌≡◌, refl, ap, ap₂, ◌∙◌}
use mathlib.Core.Bool.{true, false, cond}
use mathlib.Core.List.{List, [], ◌∷◌, ◌++◌}
use mathlib.Core.Logic.{◌⊎◌, inl, inr}
use Prim.Native.Nat.{ℕ, zero, suc, ◌+◌, ◌*◌, ◌≤◌, ◌<◌}
use native.Mathlib.Nat.{add-zero}
use native.Mathlib.Omega.{arith}
use lib.Dec.{ltb, eqb}
use lib.ListN.{length, get_or, set, length-set}
use lib.Seq.{get_or-set_same, get_or-set_other}
use borrow.Author.Tests.{ltb-false, le-ltb}
use Rattle.blocks.proofs.Bounded.{decide, every_at, every_all}
use Rattle.state.specs.State.{entry_at, entries_from}
use Rattle.job.specs.Job.{zeros_from}
use Rattle.state.specs.declared.Entry.{Entry}

-- a store past the k entries from entry i on leaves them
kept : (r : List ℕ) (p v i k : ℕ) → 2 * (i + k) ≤ p → entries_from (set r p v) i k ≡ entries_from r i k
unfolding entries_from
kept r p v i zero h = refl
kept r p v i (suc k) h =
    let leaf = get_or-set_other r p (2 * i) v 0 (λ e. omega arith) in
    let outcome = get_or-set_other r p (2 * i + 1) v 0 (λ e. omega arith) in
    rw (leaf, outcome, kept r p v (i + 1) k (omega arith))

-- one entry more
pub last_entry : (r : List ℕ) (i k : ℕ) → entries_from r i (k + 1) ≡ entries_from r i k ++ (entry_at r (i + k) ∷ [])
unfolding entries_from
last_entry r i zero = rw (add-zero i)
last_entry r i (suc k) =
    let e : suc k + 1 ≡ suc (k + 1) = omega arith in
    let f : i + 1 + k ≡ i + suc k = omega arith in
    rw e (ap (λ (l : List Entry). entry_at r i ∷ l) (last_entry r (i + 1) k ∙ rw f))

module _ (r : List ℕ) (k leaf outcome : ℕ) (room : 2 * k + 1 < length r) where
  -- the record with one entry more
  abbrev pub longer : List ℕ
  longer = set (set r (2 * k) leaf) (2 * k + 1) outcome

  long_enough : 2 * k + 1 < length (set r (2 * k) leaf)
  long_enough = simp length-set room

  pub here : entry_at longer k ≡ record { leaf = leaf; outcome = outcome }
  here =
      let a : get_or longer (2 * k) 0 ≡ leaf =
      get_or-set_other (set r (2 * k) leaf) (2 * k + 1) (2 * k) outcome 0 (λ e. omega arith) ∙ get_or-set_same r (2 * k) leaf 0 (omega arith) in
      let b : get_or longer (2 * k + 1) 0 ≡ outcome = get_or-set_same (set r (2 * k) leaf) (2 * k + 1) outcome 0 long_enough in
      rw (a, b)

  pub entries_more : entries_from longer 0 (k + 1) ≡ entries_from r 0 k ++ (record { leaf = leaf; outcome = outcome } ∷ [])
  entries_more =
      let z : 0 + k ≡ k = omega arith in
      last_entry longer 0 k
      ∙ ap₂ (λ (l : List Entry) (e : Entry). l ++ (e ∷ []))
      (kept (set r (2 * k) leaf) (2 * k + 1) outcome 0 k (omega arith) ∙ kept r (2 * k) leaf 0 k (omega arith))
      (rw z here)

  pub zeros_more : zeros_from r (2 * k) ≡ true → zeros_from longer (2 * (k + 1)) ≡ true
  zeros_more h = every_all (λ i. cond (ltb i (2 * (k + 1))) true (eqb (get_or longer i 0) 0)) (length longer) (λ i l. go i (omega (arith, length-set (set r (2 * k) leaf) (2 * k + 1) outcome, length-set r (2 * k) leaf)) (decide (ltb i (2 * (k + 1)))))
    where
      go : (i : ℕ) → i < length r → (ltb i (2 * (k + 1)) ≡ true) ⊎ (ltb i (2 * (k + 1)) ≡ false) → cond (ltb i (2 * (k + 1))) true (eqb (get_or longer i 0) 0) ≡ true
      go i l (inl e) = rw e
      go i l (inr e) =
          let past = ltb-false i (2 * (k + 1)) e in
          let same : get_or longer i 0 ≡ get_or r i 0 =
          get_or-set_other (set r (2 * k) leaf) (2 * k + 1) i outcome 0 (λ z. omega arith) ∙ get_or-set_other r (2 * k) i leaf 0 (λ z. omega arith) in
          let zero_there : cond (ltb i (2 * k)) true (eqb (get_or r i 0) 0) ≡ true = every_at (λ i. cond (ltb i (2 * k)) true (eqb (get_or r i 0) 0)) (length r) i h l in
          rw (e, same) (rw (le-ltb i (2 * k) (omega arith)) at zero_there)
