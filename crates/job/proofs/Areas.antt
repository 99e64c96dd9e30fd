-- The areas of a job: bytes and then zeros. Such an area is known by its first bytes.
use mathlib.Core.Path.{◌≡◌, sym, ◌∙◌}
use mathlib.Core.Bool.{Bool, true, false, cond}
use mathlib.Core.List.{List, ◌++◌}
use mathlib.Core.Logic.{◌⊎◌, inl, inr}
use Prim.Native.Nat.{ℕ, ◌+◌, ◌-◌, ◌≤◌, ◌<◌}
use native.Mathlib.Omega.{arith}
use lib.Dec.{ltb, eqb}
use lib.ListN.{length, get_or, take, replicate, length-append, length-replicate, get_or-append}
use lib.Seq.{ext_get_or, get_or-append-add, get_or-take, length-take-le}
use borrow.Author.Tests.{ltb-true, ltb-false, le-ltb, eqb-true}
use Rattle.blocks.proofs.Bounded.{decide, every_at, every_all}
use Rattle.job.specs.Job.{zeros_from}
use Rattle.job.proofs.Outcomes.{zeros_at}

module _ (s : List ℕ) (n : ℕ) where
  test : ℕ → Bool
  test i = cond (ltb i n) true (eqb (get_or s i 0) 0)

  pub zero_past : zeros_from s n ≡ true → (i : ℕ) → i < length s → n ≤ i → get_or s i 0 ≡ 0
  unfolding test
  zero_past h i l k = eqb-true _ _ (rw (le-ltb i n k) at (every_at test (length s) i h l))

  pub zeros_past : ((i : ℕ) → i < length s → n ≤ i → get_or s i 0 ≡ 0) → zeros_from s n ≡ true
  unfolding test
  zeros_past h = every_all test (length s) (λ i l. go i l (decide (ltb i n)))
    where
      go : (i : ℕ) → i < length s → (ltb i n ≡ true) ⊎ (ltb i n ≡ false) → cond (ltb i n) true (eqb (get_or s i 0) 0) ≡ true
      go i l (inl e) = rw e
      go i l (inr e) = rw (e, h i l (ltb-false i n e))

-- bytes with zeros after them
module _ (s : List ℕ) (k : ℕ) where
  pub padded_past : (i : ℕ) → length s ≤ i → get_or (s ++ replicate k 0) i 0 ≡ 0
  padded_past i h =
      let e : i ≡ length s + (i - length s) = omega arith in
      rw e (get_or-append-add s (replicate k 0) (i - length s) 0 ∙ zeros_at k (i - length s))

  pub padded_zeros : zeros_from (s ++ replicate k 0) (length s) ≡ true
  padded_zeros = zeros_past (s ++ replicate k 0) (length s) (λ i l h. padded_past i h)

-- an area that is 0 past its first n bytes is those bytes with zeros after them
pub padded_back : (s : List ℕ) (n : ℕ) → n ≤ length s → zeros_from s n ≡ true → take n s ++ replicate (length s - n) 0 ≡ s
padded_back s n h z = ext_get_or 0 (take n s ++ replicate (length s - n) 0) s long (λ i l. go i (omega (arith, long)) (decide (ltb i n)))
  where
    front : length (take n s) ≡ n
    front = length-take-le n s h

    long : length (take n s ++ replicate (length s - n) 0) ≡ length s
    long = simp length-append (omega (arith, front, length-replicate {A = ℕ} (length s - n) 0))

    go : (i : ℕ) → i < length s → (ltb i n ≡ true) ⊎ (ltb i n ≡ false) → get_or (take n s ++ replicate (length s - n) 0) i 0 ≡ get_or s i 0
    go i l (inl e) =
        let k = ltb-true i n e in
        get_or-append (take n s) (replicate (length s - n) 0) 0 i (omega (arith, front)) ∙ get_or-take n s i 0 k
    go i l (inr e) =
        let k = ltb-false i n e in
        padded_past (take n s) (length s - n) i (omega (arith, front)) ∙ sym (zero_past s n z i l k)
