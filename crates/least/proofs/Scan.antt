-- The sets of a family, word after word from 0 on: as long as none breaks the rule, all that were passed satisfy it; the first that
-- breaks it, the lowest bit of its word, is the smallest.
use mathlib.Core.Path.{◌≡◌, refl, sym, ap, ◌∙◌}
use mathlib.Core.Bool.{Bool, true, false, not, ◌&&◌, true≢false}
use mathlib.Core.List.{List}
use mathlib.Core.Logic.{inl, inr}
use Prim.Native.Nat.{ℕ, ◌+◌, ◌-◌, ◌*◌, ◌/◌, ◌%◌, ◌^◌, ◌≤◌, ◌<◌}
use native.Mathlib.Nat.{not-suc-le-zero}
use native.Mathlib.Omega.{arith}
use lib.Bits.{bit_and}
use lib.Dec.{eqb}
use lib.ListN.{get_or}
use borrow.Author.Tests.{eqb-true, eq-eqb}
use Rattle.blocks.specs.Bounded.{one}
use Rattle.family.specs.Family.{bit_at, has_at, In}
use Rattle.family.proofs.Numbers.{below_or_above}
use Rattle.family.proofs.Bits.{bit_small, no_bit}
use Rattle.family.proofs.Lowest.{Lowest}
use Rattle.meaning.specs.Value.{satisfies}
use Rattle.rule.specs.Words.{Tells}
use Rattle.rule.proofs.Shared.{one_bit}
use Rattle.rule.proofs.Words.{tells_and, tells_not}
use Rattle.least.specs.Least.{Breaks, violates, Smallest}

is_some : (t : Bool) → one t ≡ 1 → t ≡ true
is_some true e = refl
is_some false e = absurd (omega arith)

is_none : (t : Bool) → one t ≡ 0 → t ≡ false
is_none true e = absurd (omega arith)
is_none false e = refl

-- the sets of a word, those that satisfy the rule taken out
own_bits : (w word : ℕ) → Tells w word (λ set. eqb (bit_at word (set % 64)) 1)
own_bits w word = record { bits = λ i l. let e : (w * 64 + i) % 64 ≡ i = omega arith in rw e (one_bit (bit_at word i) (bit_small word i)) }

pub no_violations : (rule pairs : List ℕ) (w word : ℕ) → word ≡ 0 → Tells w 0 (λ set. violates rule pairs word set)
no_violations rule pairs w word z = record { bits = λ i l. no_bit i ∙ ap one (none (w * 64 + i)) }
  where
    none : (set : ℕ) → false ≡ violates rule pairs word set
    none set = rw (z, no_bit (set % 64))

pub taken_out : (rule pairs : List ℕ) (w word r : ℕ) → r < 2 ^ 64 → Tells w r (λ set. satisfies rule pairs set)
    → Tells w (bit_and word (2 ^ 64 - 1 - r)) (λ set. violates rule pairs word set)
taken_out rule pairs w word r fits told = record { bits = (tells_and (own_bits w word) (tells_not fits told)).bits }

module _ (rule pairs f : List ℕ) where
  abbrev found : ℕ → Bool
  found t = violates rule pairs (get_or f (t / 64) 0) t

  violation : (t : ℕ) → found t ≡ true → In f t × Breaks rule pairs t
  violation t e = go (eqb (has_at f t) 1) (satisfies rule pairs t) refl e
    where
      go : (a s : Bool) → eqb (has_at f t) 1 ≡ a → a && not s ≡ true → In f t × (s ≡ false)
      go true false h e = (eqb-true _ _ h, refl)
      go true true h e = absurd (true≢false (sym e))
      go false s h e = absurd (true≢false (sym e))

  no_violation : (t : ℕ) → found t ≡ false → In f t → satisfies rule pairs t ≡ true
  no_violation t e on = go (satisfies rule pairs t) (rw (eq-eqb (has_at f t) 1 on) at e)
    where
      go : (s : Bool) → true && not s ≡ false → s ≡ true
      go true e = refl
      go false e = absurd (true≢false e)

  -- the sets below t satisfy the rule
  abbrev pub Passed : ℕ → Type 0
  Passed t = (u : ℕ) → u < t → In f u → satisfies rule pairs u ≡ true

  pub passed_none : Passed 0
  passed_none u h = absurd (not-suc-le-zero h)

  -- z sets more, of word w
  passed_more : (w z : ℕ) → z ≤ 64 → ((i : ℕ) → i < z → found (w * 64 + i) ≡ false) → Passed (w * 64) → Passed (w * 64 + z)
  passed_more w z few none old u h on = elim (below_or_above u (w * 64)) [
    | inl l ↦ old u l on
    | inr l ↦ let e : w * 64 + (u - w * 64) ≡ u = omega arith in no_violation u (ap found (sym e) ∙ none (u - w * 64) (omega arith)) on
  ]

  pub first_found : (t : ℕ) → found t ≡ true → Passed t → Smallest rule pairs f t
  first_found t e passed =
      let (on, breaks) = violation t e in
      record {
        has = on;
        breaks = breaks;
        least = λ u h k. elim (below_or_above u t) [ inl below ↦ absurd (true≢false (sym (passed u below h) ∙ k)) | inr above ↦ above ];
      }

  module _ (w broken : ℕ) (told : Tells w broken (λ set. violates rule pairs (get_or f w 0) set)) where
    broken_bit : (i : ℕ) → i < 64 → bit_at broken i ≡ one (found (w * 64 + i))
    broken_bit i l = let e : (w * 64 + i) / 64 ≡ w = omega arith in rw e (told.bits i l)

    clear_bit : (i : ℕ) → i < 64 → bit_at broken i ≡ 0 → found (w * 64 + i) ≡ false
    clear_bit i l off = is_none (found (w * 64 + i)) (sym (broken_bit i l) ∙ off)

    -- a word without such a set is passed
    pub word_passed : broken ≡ 0 → Passed (w * 64) → Passed ((w + 1) * 64)
    word_passed z old =
        let e : (w + 1) * 64 ≡ w * 64 + 64 = omega arith in
        rw e (passed_more w 64 (omega arith) (λ i l. clear_bit i l (ap (λ (n : ℕ). bit_at n i) z ∙ no_bit i)) old)

    -- the lowest one of a word is the smallest
    pub word_found : (i : ℕ) → Lowest 64 broken i → Passed (w * 64) → Smallest rule pairs f (w * 64 + i)
    word_found i low old =
        first_found (w * 64 + i) (is_some (found (w * 64 + i)) (sym (broken_bit i low.inside) ∙ low.set))
        (passed_more w i (omega (arith, low.inside)) (λ j l. clear_bit j (omega (arith, low.inside)) (low.clear j l)) old)
