-- The family of the empty set alone, by its words: word 0 is 1, and the others are 0.
use mathlib.Core.Path.{◌≡◌, refl, sym, ap, ◌∙◌}
use mathlib.Core.Bool.{Bool, true, false, false≢true}
use mathlib.Core.Logic.{inl, inr}
use mathlib.Core.List.{List}
use Prim.Native.Nat.{ℕ, ◌+◌, ◌-◌, ◌*◌, ◌/◌, ◌%◌, ◌^◌, ◌<◌}
use native.Mathlib.Omega.{arith}
use lib.ListN.{length, get_or, set, take, drop, length-set, length-take, length-drop}
use lib.Pow.{shr-shr}
use lib.Seq.{get_or-set_same, get_or-set_other}
use Rattle.std.specs.Bool.{MatchBool}
use Rattle.std.specs.List.{AllWithin, HoldsAt}
use Rattle.std.proofs.lemmas.Bool.{cases_eq}
use Rattle.std.proofs.lemmas.List.{get_or-take}
use Rattle.std.proofs.lemmas.Grind.{get_or_after_one}
use Rattle.family.specs.Family.{bit_at, Empty, Single}
use Rattle.std.proofs.lemmas.Nat.Bits.{bit_at-lt, bit_at-zero}
use Rattle.family.proofs.Bits.{only_own_bit, all_clear}
use Rattle.family.proofs.Words.{in_word, stored_back, stored_other, no_sets, no_word}
use Rattle.product.specs.Steps.{TellsUnit}

-- word 0 is 1, and the other words have no sets: the empty set alone
pub unit_word : (f : List ℕ) → 0 < length f → get_or f 0 0 ≡ 1 → Empty (set f 0 0) → Single 0 f
unit_word f l one none = record {
  sound = λ t on. elim (cases_eq (t / 64) 0) [
    | inl e ↦ let w = ap (λ (k : ℕ). bit_at (get_or f k 0) (t % 64)) e in (omega (arith, only_own_bit (t % 64) 0 (rw one at (sym w ∙ on))), omega arith)
    | inr d ↦ absurd (none t (stored_other f 0 0 l t d on))
  ];
  complete = λ h. ap (λ (w : ℕ). bit_at w 0) one;
}

module _ (f : List ℕ) (unit : Single 0 f) where
  -- every other bit of word 0 would be another set
  pub first_word : get_or f 0 0 < 2 ^ 64 → get_or f 0 0 ≡ 1
  first_word fits =
      let w = get_or f 0 0 in
      let clear : (i : ℕ) → i < 63 → bit_at w (1 + i) ≡ 0 = λ i l. let d : ¬ (bit_at w (1 + i) ≡ 1) = λ on. omega (arith, (unit.sound (0 * 64 + (1 + i)) (in_word f 0 (1 + i) (omega arith) on)).0) in omega (arith, bit_at-lt w (1 + i)) in
      let high : w / 2 ≡ 0 = all_clear 63 (w / 2) (omega arith) (λ i l. ap (λ (m : ℕ). m % 2) (shr-shr w 1 i) ∙ clear i l) in
      omega (arith, unit.complete (omega arith))

  pub no_other_word : 0 < length f → Empty (set f 0 0)
  no_other_word l t on = elim (stored_back f 0 0 l t on) [
    | inl (e, bit) ↦ omega (arith, bit_at-zero (t % 64))
    | inr (d, there) ↦ d (omega (arith, (unit.sound t there).0))
  ]

-- by word 0, and by whether the words after it are all 0
module _ (f : List ℕ) (sixteen : length f ≡ 16) (fits : (k : ℕ) → get_or f k 0 < 2 ^ 64) where
  pub tells_other : (get_or f 0 0 ≡ 1 → ⊥) → TellsUnit f false
  tells_other other = record { sound = λ e. absurd (false≢true e); complete = λ unit. absurd (other (first_word f unit (fits 0))) }

  abbrev after : List ℕ
  after = take 15 (drop 1 f)

  fifteen : length after ≡ 15
  fifteen = omega (arith, length-take {A = ℕ}, length-drop {A = ℕ})

  later : (k : ℕ) → k < 15 → get_or after k 0 ≡ get_or (set f 0 0) (1 + k) 0
  later k l = get_or-take 15 (drop 1 f) k 0 l ∙ get_or_after_one f k 0 ∙ sym (get_or-set_other f 0 (1 + k) 0 0 (λ e. omega arith))

  zeros : AllWithin (λ w. w ≡ 0) after 0 (length after) → (k : ℕ) → k < 16 → get_or (set f 0 0) k 0 ≡ 0
  zeros all k l = elim (cases_eq k 0) [
    | inl e ↦ rw e (get_or-set_same f 0 0 0 (omega arith))
    | inr d ↦ let e : 1 + (k - 1) ≡ k = omega arith in rw e at (sym (later (k - 1) (omega arith))) ∙ all (k - 1) 0 (omega arith) (omega (arith, fifteen))
  ]

  pub tells_unit : (r : Bool) → get_or f 0 0 ≡ 1 → MatchBool r (AllWithin (λ w. w ≡ 0) after 0 (length after)) ((k : ℕ) × (k < length after) × HoldsAt (λ w. ¬ (w ≡ 0)) after k) → TellsUnit f r
  tells_unit true one all = record { sound = λ e. unit_word f (omega arith) one (no_sets (set f 0 0) (length-set f 0 0 ∙ sixteen) (zeros all)); complete = λ unit. refl }
  tells_unit false one some = record {
    sound = λ e. absurd (false≢true e);
    complete = λ unit. absurd (some.2 0 (later some.0 (omega (arith, fifteen, some.1)) ∙ no_word (set f 0 0) (1 + some.0) (rw (get_or-set_other f 0 (1 + some.0) 0 0 (λ e. omega arith)) (fits (1 + some.0))) (no_other_word f unit (omega arith))));
  }
