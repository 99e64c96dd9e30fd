-- The sets of a word that have an action: below 6 the action is in the place's number, and the six patterns are right by a test that is computed; from 6
-- on it is in the word's number, and all of its sets have it or none.
use mathlib.Core.Path.{◌≡◌, sym, ap, ◌∙◌}
use Prim.Native.Nat.{ℕ, ◌+◌, ◌-◌, ◌*◌, ◌^◌, ◌≤◌, ◌<◌}
use native.Mathlib.Nat.{zero-add}
use native.Mathlib.Omega.{arith}
use lib.Dec.{T, eqb, eqb→eq}
use lib.Pow.{pow_mono}
use Rattle.std.proofs.lemmas.Nat.Bits.{bit_at_above, bit_at_cat_low, bit_at_cat_high}
use Rattle.family.specs.Family.{bit_at, Having}
use Rattle.family.proofs.Numbers.{every, at_number}
use Rattle.family.proofs.Bits.{no_bit}

-- a number has no bit past its size
past : (n a : ℕ) → n < 2 ^ a → bit_at n a ≡ 0
past n a l = bit_at_above n a a l (omega arith)

-- a pattern is right where its 64 bits are
pub patterned : (word a : ℕ) → T (every 64 (λ i. eqb (bit_at word i) (bit_at (0 * 64 + i) a))) → Having a 0 word
patterned word a t = record { bits = λ i l. eqb→eq _ _ (at_number 64 (λ i. eqb (bit_at word i) (bit_at (0 * 64 + i) a)) t i l) }

pub no_pattern : (a : ℕ) → 6 ≤ a → Having a 0 0
no_pattern a l = record { bits = λ i h. no_bit i ∙ sym (past (0 * 64 + i) a (omega (arith, pow_mono {i = 6} {j = a} l))) }

-- in word 0 the place is the set
pub place_bit : {a r : ℕ} → Having a 0 r → (i : ℕ) → i < 64 → bit_at r i ≡ bit_at i a
place_bit {a} h i l = h.bits i l ∙ ap (λ (n : ℕ). bit_at n a) (zero-add i)

module _ (a w : ℕ) where
  pub by_place : (r : ℕ) → a < 6 → Having a 0 r → Having a w r
  by_place r l h = record { bits = λ i b. place_bit h i b ∙ sym (bit_at_cat_low w 6 i a l) }

  module _ (l : 6 ≤ a) where
    pub by_word_none : bit_at w (a - 6) ≡ 0 → Having a w 0
    by_word_none off = record { bits = λ i b. no_bit i ∙ sym (bit_at_cat_high w 6 i a b l ∙ off) }

    pub by_word_all : bit_at w (a - 6) ≡ 1 → Having a w 0xffffffffffffffff
    by_word_all on = record { bits = λ i b. all_set i b ∙ sym (bit_at_cat_high w 6 i a b l ∙ on) }
      where
        all_set : (i : ℕ) → i < 64 → bit_at 0xffffffffffffffff i ≡ 1
        all_set i b = eqb→eq _ _ (at_number 64 (λ i. eqb (bit_at 0xffffffffffffffff i) 1) tt i b)

    pub by_word_past : 64 ≤ a - 6 → w < 2 ^ 64 → Having a w 0
    by_word_past k small = by_word_none (past w (a - 6) (omega (arith, pow_mono {i = 64} {j = a - 6} k)))
