-- Every array of 256 words is the masks of some pairs: so a contract that holds "wherever the masks are those of the pairs" fixes the answer for every
-- array that is lent. The pairs are put together number by number: 64 a + u for the undo u in the mask of the action a.
use mathlib.Core.Path.{◌≡◌, refl, sym, ap, ◌∙◌}
use mathlib.Core.Bool.{cond}
use mathlib.Core.List.{List, [], ◌∷◌, ◌++◌}
use mathlib.Core.Logic.{inl, inr}
use Prim.Native.Nat.{ℕ, zero, suc, ◌+◌, ◌-◌, ◌*◌, ◌/◌, ◌%◌, ◌^◌, ◌≤◌, ◌<◌}
use native.Mathlib.Nat.{mod-lt, mod-one, mod-eq_of_lt, one-mul}
use native.Mathlib.Omega.{arith}
use lib.Bits.{bit_or, or_zero_r, or_shifted_r}
use lib.Dec.{eqb}
use lib.ListN.{length, length-append, get_or, get_or-append}
use lib.Pow.{pow_mono, pow_pos, mod-pow-add}
use lib.Seq.{get_or-append-add}
use borrow.Author.Tests.{eq-eqb, ne_eqb, lt-ltb}
use Rattle.bodies.specs.Pairs.{pair_count}
use Rattle.family.specs.Family.{bit_at}
use Rattle.family.proofs.Numbers.{same_or_other, below_or_above}
use Rattle.family.proofs.Bits.{bit_small}
use Rattle.undos.specs.Masks.{bit, undos_in, Masks, EveryMasks}

-- pairs that are appended leave the undos of the first ones
undos_append : (p q : List ℕ) (a n : ℕ) → 2 * n ≤ length p → undos_in n (p ++ q) a ≡ undos_in n p a
unfolding undos_in
undos_append p q a zero l = refl
undos_append p q a (suc n) l =
    let f = get_or-append p q 0 (2 * n) (omega arith) in
    let s = get_or-append p q 0 (2 * n + 1) (omega arith) in
    rw (f, s, undos_append p q a n (omega arith))

-- a pair more at the end
undos_more : (p : List ℕ) (a m x y : ℕ) → length p ≡ 2 * m
    → undos_in (suc m) (p ++ (x ∷ y ∷ [])) a ≡ bit_or (undos_in m p a) (cond (eqb x a) (bit y) 0)
unfolding undos_in
undos_more p a m x y l =
    let f : get_or (p ++ (x ∷ y ∷ [])) (2 * m) 0 ≡ x = ap (λ (k : ℕ). get_or (p ++ (x ∷ y ∷ [])) k 0) (omega arith) ∙ get_or-append-add p (x ∷ y ∷ []) 0 0 in
    let s : get_or (p ++ (x ∷ y ∷ [])) (2 * m + 1) 0 ≡ y = ap (λ (k : ℕ). get_or (p ++ (x ∷ y ∷ [])) k 0) (omega arith) ∙ get_or-append-add p (x ∷ y ∷ []) 1 0 in
    rw (f, s, undos_append p (x ∷ y ∷ []) a m (omega arith))

module _ (masks : List ℕ) (words : (a : ℕ) → get_or masks a 0 < 2 ^ 64) where
  -- the pairs of the numbers below n: of the mask of a, its first n - 64 a bits
  record Built (n : ℕ) : Type 0 where
    pairs : List ℕ
    count : ℕ
    long : length pairs ≡ 2 * count
    undos : (a : ℕ) → undos_in count pairs a ≡ get_or masks a 0 % 2 ^ (n - 64 * a)

  built_none : Built 0
  unfolding undos_in
  built_none = record {
    pairs = [];
    count = 0;
    long = refl;
    undos = λ a. let e : 0 - 64 * a ≡ 0 = omega arith in sym (ap (λ (k : ℕ). get_or masks a 0 % 2 ^ k) e ∙ mod-one (get_or masks a 0));
  }

  -- a mask has 64 bits
  whole : (a k : ℕ) → 64 ≤ k → get_or masks a 0 % 2 ^ k ≡ get_or masks a 0
  whole a k l = mod-eq_of_lt (omega (arith, words a, pow_mono {i = 64} {j = k} l))

  -- the masks of the other actions have no bit of the number n
  other_mask : (n a : ℕ) → ¬ (a ≡ n / 64) → get_or masks a 0 % 2 ^ (suc n - 64 * a) ≡ get_or masks a 0 % 2 ^ (n - 64 * a)
  other_mask n a d = elim (below_or_above a (n / 64)) [
    | inl l ↦ whole a (suc n - 64 * a) (omega arith) ∙ sym (whole a (n - 64 * a) (omega arith))
    | inr l ↦ let e : suc n - 64 * a ≡ n - 64 * a = omega arith in ap (λ (k : ℕ). get_or masks a 0 % 2 ^ k) e
  ]

  -- its own mask has one bit more
  own_mask : (n a : ℕ) → a ≡ n / 64
      → get_or masks a 0 % 2 ^ (suc n - 64 * a) ≡ bit_at (get_or masks a 0) (n % 64) * 2 ^ (n % 64) + get_or masks a 0 % 2 ^ (n - 64 * a)
  own_mask n a e =
      let f : suc n - 64 * a ≡ 1 + n % 64 = omega arith in
      let g : n - 64 * a ≡ n % 64 = omega arith in
      rw (f, g) (mod-pow-add (get_or masks a 0) 1 (n % 64))

  module _ (n : ℕ) (b : Built n) where
    built_without : bit_at (get_or masks (n / 64) 0) (n % 64) ≡ 0 → Built (suc n)
    built_without off = record { pairs = b.pairs; count = b.count; long = b.long; undos = undos }
      where
        undos : (a : ℕ) → undos_in b.count b.pairs a ≡ get_or masks a 0 % 2 ^ (suc n - 64 * a)
        undos a = elim (same_or_other a (n / 64)) [
          | inl e ↦ b.undos a ∙ sym (own_mask n a e ∙ ap (λ (k : ℕ). k * 2 ^ (n % 64) + get_or masks a 0 % 2 ^ (n - 64 * a)) (rw e off) ∙ none (2 ^ (n % 64)) _)
          | inr d ↦ b.undos a ∙ sym (other_mask n a d)
        ]
          where
            none : (x y : ℕ) → 0 * x + y ≡ y
            none x y = omega arith

    built_with : bit_at (get_or masks (n / 64) 0) (n % 64) ≡ 1 → Built (suc n)
    built_with on = record {
      pairs = b.pairs ++ (n / 64 ∷ n % 64 ∷ []);
      count = suc b.count;
      long = omega (arith, length-append b.pairs (n / 64 ∷ n % 64 ∷ []), b.long);
      undos = λ a. undos_more b.pairs a b.count (n / 64) (n % 64) b.long ∙ undos a;
    }
      where
        own_bit : bit (n % 64) ≡ 2 ^ (n % 64)
        own_bit = rw (lt-ltb (n % 64) 64 (mod-lt n (omega arith)))

        added : (m : ℕ) → bit_or (m % 2 ^ (n % 64)) (2 ^ (n % 64)) ≡ 1 * 2 ^ (n % 64) + m % 2 ^ (n % 64)
        added m = ap (bit_or (m % 2 ^ (n % 64))) (sym (one-mul (2 ^ (n % 64)))) ∙ or_shifted_r 1 (n % 64) (m % 2 ^ (n % 64)) (mod-lt m (pow_pos (n % 64)))

        undos : (a : ℕ) → bit_or (undos_in b.count b.pairs a) (cond (eqb (n / 64) a) (bit (n % 64)) 0) ≡ get_or masks a 0 % 2 ^ (suc n - 64 * a)
        undos a = elim (same_or_other a (n / 64)) [
          | inl e ↦ let g : n - 64 * a ≡ n % 64 = omega arith in
              rw (eq-eqb (n / 64) a (sym e), own_bit, b.undos a, own_mask n a e, g) (added (get_or masks a 0) ∙ ap (λ (k : ℕ). k * 2 ^ (n % 64) + get_or masks a 0 % 2 ^ (n % 64)) (sym (rw e on)))
          | inr d ↦ rw (ne_eqb (n / 64) a (λ e. d (sym e)), or_zero_r (undos_in b.count b.pairs a), b.undos a) (sym (other_mask n a d))
        ]

  built : (n : ℕ) → Built n
  built zero = built_none
  built (suc n) = elim (same_or_other (bit_at (get_or masks (n / 64) 0) (n % 64)) 1) [
    | inl on ↦ built_with n (built n) on
    | inr off ↦ built_without n (built n) (omega (arith, bit_small (get_or masks (n / 64) 0) (n % 64)))
  ]

  some_pairs : (pairs : List ℕ) × Masks pairs masks
  some_pairs =
      let b = built (256 * 64) in
      let e : pair_count b.pairs ≡ b.count = omega (arith, b.long) in
      (b.pairs, record { undos = λ a l. rw e (sym (b.undos a ∙ whole a (256 * 64 - 64 * a) (omega arith))) })

pub every_masks : EveryMasks
every_masks = some_pairs
