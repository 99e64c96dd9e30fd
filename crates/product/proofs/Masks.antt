-- An action below 6 added to every set of a word: a shift by its power of two, and the mask of the places whose number has it.
-- What holds of the six actions and the 64 places is one computed test; the rest is bits.
use mathlib.Core.Path.{◌≡◌, sym, ap, ap₂, ◌∙◌}
use mathlib.Core.Bool.{Bool, true, false, ◌&&◌}
use mathlib.Core.Logic.{inl, inr}
use Prim.Native.Nat.{ℕ, ◌+◌, ◌-◌, ◌*◌, ◌%◌, ◌^◌, ◌<◌, max, min}
use native.Mathlib.Omega.{arith}
use lib.Dec.{T, eqb}
use lib.Pow.{pow-lt}
use lib.Bits.{bit_or, bit_and, or_lt}
use Rattle.family.specs.Family.{bit_at, Having}
use Rattle.product.specs.Steps.{FromBit, Spread}
use Rattle.std.proofs.lemmas.Bool.{cases_lt}
use Rattle.family.proofs.Numbers.{three_equal, every, at_number}
use Rattle.family.proofs.Patterns.{place_bit}
use Rattle.std.proofs.lemmas.Nat.Bits.{bit_at_or, bit_at_and, bit_at-lt}
use Rattle.family.proofs.Bits.{or_back}
use Rattle.product.proofs.Shifts.{shifted_in, shifted_clear}

abbrev masked : ℕ → ℕ → ℕ
masked k j = bit_at j k

-- a place that has action k: its mask bit is 1, and k added to it, or to the place without it, is it
-- one that has it not: its mask bit is 0, k added to it is 2 ^ k places up, and has the mask bit 1
data Place (k j : ℕ) : Type 0 where
  has : masked k j ≡ 1 → bit_or (2 ^ k) j ≡ j → bit_or (2 ^ k) (j - 2 ^ k) ≡ j → Place k j
  lacks : masked k j ≡ 0 → bit_or (2 ^ k) j ≡ j + 2 ^ k → masked k (j + 2 ^ k) ≡ 1 → Place k j

abbrev placed : Bool → ℕ → ℕ → Bool
placed true k j = eqb (masked k j) 1 && (eqb (bit_or (2 ^ k) j) j && eqb (bit_or (2 ^ k) (j - 2 ^ k)) j)
placed false k j = eqb (masked k j) 0 && (eqb (bit_or (2 ^ k) j) (j + 2 ^ k) && eqb (masked k (j + 2 ^ k)) 1)

place_of : (b : Bool) (k j : ℕ) → T (placed b k j) → Place k j
place_of true k j t = let (p, q, r) = three_equal (masked k j) 1 (bit_or (2 ^ k) j) j (bit_or (2 ^ k) (j - 2 ^ k)) j t in has p q r
place_of false k j t = let (p, q, r) = three_equal (masked k j) 0 (bit_or (2 ^ k) j) (j + 2 ^ k) (masked k (j + 2 ^ k)) 1 t in lacks p q r

abbrev test : ℕ → ℕ → Bool
test k j = placed (eqb (bit_at j k) 1) k j

place : (k j : ℕ) → k < 6 → j < 64 → Place k j
place k j lk lj = place_of (eqb (bit_at j k) 1) k j (at_number 64 (test k) (at_number 6 (λ k. every 64 (test k)) tt k lk) j lj)

module _ (w k mask : ℕ) (lk : k < 6) (pattern : Having k 0 mask) where
  abbrev shifted : ℕ
  shifted = w * 2 ^ (2 ^ k) % 2 ^ 64

  abbrev pub action_added : ℕ
  action_added = bit_and (bit_or w shifted) mask

  added_bit : (j : ℕ) → j < 64 → bit_at action_added j ≡ min (max (bit_at w j) (bit_at shifted j)) (masked k j)
  added_bit j l = bit_at_and (bit_or w shifted) mask j ∙ ap₂ min (bit_at_or w shifted j) (place_bit pattern j l)

  added_sound : (j : ℕ) → j < 64 → bit_at action_added j ≡ 1 → FromBit w (2 ^ k) j
  added_sound j lj on = elim (place k j lk lj) [
    | lacks m u v ↦ absurd (omega (arith, added_bit j lj))
    | has m same down ↦ elim (or_back w shifted j (omega (arith, added_bit j lj, bit_at_or w shifted j, bit_at-lt (bit_or w shifted) j))) [
      | inl here ↦ record { bit = j; small = lj; on = here; is = same }
      | inr moved ↦ elim (cases_lt j (2 ^ k)) [
        | inl l ↦ absurd (omega (arith, shifted_clear w (2 ^ k) j l lj))
        | inr l ↦ let e : j - 2 ^ k + 2 ^ k ≡ j = omega arith in
            record { bit = j - 2 ^ k; small = omega arith; on = sym (shifted_in w (2 ^ k) (j - 2 ^ k) (rw e lj)) ∙ ap (bit_at shifted) e ∙ moved; is = down }
      ]
    ]
  ]

  added_complete : (i : ℕ) → i < 64 → bit_at w i ≡ 1 → bit_at action_added (bit_or (2 ^ k) i) ≡ 1
  added_complete i li on = elim (place k i lk li) [
    | has m same down ↦ rw same (omega (arith, added_bit i li, bit_at-lt shifted i))
    | lacks m moved v ↦ let l : i + 2 ^ k < 64 = rw moved at (or_lt 6 (2 ^ k) i (pow-lt lk) li) in
        rw moved (omega (arith, added_bit (i + 2 ^ k) l, shifted_in w (2 ^ k) i l, bit_at-lt w (i + 2 ^ k)))
  ]

  pub action_added_lem : Spread w (2 ^ k) action_added
  action_added_lem = record { sound = added_sound; complete = added_complete }
