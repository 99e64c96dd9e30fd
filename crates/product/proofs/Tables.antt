-- A word with the actions of a set: spread by x and then by z it is spread by z | x. So a table of the word with each x below 2 ^ k is
-- doubled by action k; and the words that a second word picks from the whole table make the union of the two words' sets.
use mathlib.Core.Path.{◌≡◌, refl, sym, ap, ◌∙◌, subst}
use mathlib.Core.Logic.{inl, inr}
use mathlib.Core.List.{List, ◌∷◌}
use Prim.Native.Nat.{ℕ, zero, suc, ◌+◌, ◌-◌, ◌^◌, ◌≤◌, ◌<◌}
use native.Mathlib.Nat.{one-mul, pow-suc}
use native.Mathlib.Numerals.{add-one}
use native.Mathlib.Omega.{arith}
use lib.Bits.{bit_or, or_lt, or_shifted}
use lib.ListN.{length, get_or, set, length-set}
use lib.Pow.{pow_mono}
use lib.Seq.{get_or-set_same, get_or-set_other}
use borrow.Author.Count.{below_more}
use Rattle.family.specs.Family.{bit_at}
use Rattle.product.specs.Steps.{Spread, Spreads, Doubled, Picked}
use Rattle.std.proofs.lemmas.Bool.{cases_lt}
use Rattle.std.proofs.lemmas.Nat.Bits.{bit_at-zero}
use Rattle.family.proofs.Bits.{or_left, or_right, or_back, or_assoc}

-- the word itself
pub spreads_first : (w : ℕ) (rest : List ℕ) → Spreads w 1 (w ∷ rest)
spreads_first w rest zero l = record { sound = λ j h on. record { bit = j; small = h; on = on; is = refl }; complete = λ i h on. on }
spreads_first w rest (suc x) l = absurd (omega arith)

spread_then : {w x m z r : ℕ} → x < 64 → Spread w x m → Spread m z r → Spread w (bit_or z x) r
spread_then {w} {x} {m} {z} {r} l first then = record {
  sound = λ j lj on.
      let s = then.sound j lj on in
      let t = first.sound s.bit s.small s.on in
      record { bit = t.bit; small = t.small; on = t.on; is = or_assoc z x t.bit ∙ ap (bit_or z) t.is ∙ s.is };
  complete = λ i li on. ap (bit_at r) (or_assoc z x i) ∙ then.complete (bit_or x i) (or_lt 6 x i l li) (first.complete i li on);
}

-- 2 ^ k and a number below it have no bit in common
or_top : (k x : ℕ) → x < 2 ^ k → bit_or (2 ^ k) x ≡ 2 ^ k + x
or_top k x l = ap (λ (n : ℕ). bit_or n x) (sym (one-mul (2 ^ k))) ∙ or_shifted 1 k x l ∙ ap (λ (n : ℕ). n + x) (one-mul (2 ^ k))

-- the first j words with action k stand after the n words of s
pub record Doubling (s : List ℕ) (k n j : ℕ) (r : List ℕ) : Type 0 where
  pub size : n ≡ 2 ^ k
  pub half : n ≤ 32
  pub long : length r ≡ 64
  pub most : j ≤ n
  pub kept : (x : ℕ) → x < n → get_or r x 0 ≡ get_or s x 0
  pub added : (x : ℕ) → x < j → Spread (get_or s x 0) (2 ^ k) (get_or r (n + x) 0)

pub doubling_none : (s : List ℕ) (k n : ℕ) → k < 6 → length s ≡ 64 → n ≡ 2 ^ k → Doubling s k n 0 s
doubling_none s k n l sixty_four e = record {
  size = e;
  half = omega (arith, pow_mono {i = k} {j = 5} (omega arith));
  long = sixty_four;
  most = omega arith;
  kept = λ x h. refl;
  added = λ x h. absurd (omega arith);
}

pub doubling_more : (s : List ℕ) (k n j : ℕ) (r : List ℕ) (w : ℕ) → j < n → Doubling s k n j r → Spread (get_or r j 0) (2 ^ k) w → Doubling s k n (j + 1) (set r (n + j) w)
doubling_more s k n j r w l d new = record {
  size = d.size;
  half = d.half;
  long = length-set r (n + j) w ∙ d.long;
  most = omega arith;
  kept = λ x h. get_or-set_other r (n + j) x w 0 (λ e. omega arith) ∙ d.kept x h;
  added = below_more (λ x. Spread (get_or s x 0) (2 ^ k) (get_or (set r (n + j) w) (n + x) 0)) j
      (λ x h. rw (get_or-set_other r (n + j) (n + x) w 0 (λ e. omega arith)) (d.added x h))
      (rw (get_or-set_same r (n + j) w 0 (omega (arith, d.half, d.long))) (rw (d.kept j l) at new));
}

pub doubled : (s : List ℕ) (k n j : ℕ) (r : List ℕ) → n ≤ j → Doubling s k n j r → Doubled s k r
doubled s k n j r l d = record {
  kept = λ x h. d.kept x (omega (arith, d.size));
  added = λ x h. rw (sym d.size) (rw (sym d.size) at (d.added x (omega (arith, d.size))));
}

pub spreads_doubled : (w k : ℕ) (s r : List ℕ) → 2 ^ k ≤ 64 → Spreads w (2 ^ k) s → Doubled s k r → Spreads w (2 ^ (k + 1)) r
spreads_doubled w k s r small old d x l = elim (cases_lt x (2 ^ k)) [
  | inl low ↦ rw (d.kept x low) (old x low)
  | inr high ↦
      let e : 2 ^ k + (x - 2 ^ k) ≡ x = omega arith in
      let low : x - 2 ^ k < 2 ^ k = omega (arith, rw add-one at l, pow-suc 2 k) in
      subst (λ (y : ℕ). Spread w y (get_or r y 0)) e
      (subst (λ (y : ℕ). Spread w y (get_or r (2 ^ k + (x - 2 ^ k)) 0)) (or_top k (x - 2 ^ k) low) (spread_then (omega arith) (old (x - 2 ^ k) low) (d.added (x - 2 ^ k) low)))
]

-- the words picked
module _ (u : ℕ) (table : List ℕ) where
  pub picked_none : Picked u table 0 0
  picked_none = record { sound = λ j on. absurd (omega (arith, bit_at-zero j)); complete = λ x l. absurd (omega arith) }

  module _ (x r : ℕ) (p : Picked u table x r) where
    pub picked_more : x < 64 → bit_at u x ≡ 1 → Picked u table (x + 1) (bit_or r (get_or table x 0))
    picked_more l on = record {
      sound = λ j h. elim (or_back r (get_or table x 0) j h) [ inl old ↦ p.sound j old | inr new ↦ record { place = x; small = l; on = on; has = new } ];
      complete = below_more (λ y. bit_at u y ≡ 1 → (j : ℕ) → bit_at (get_or table y 0) j ≡ 1 → bit_at (bit_or r (get_or table x 0)) j ≡ 1) x
          (λ y h i j has. or_left r (get_or table x 0) j (p.complete y h i j has)) (λ i j has. or_right r (get_or table x 0) j has);
    }

    pub picked_skip : ¬ (bit_at u x ≡ 1) → Picked u table (x + 1) r
    picked_skip off = record {
      sound = p.sound;
      complete = below_more (λ y. bit_at u y ≡ 1 → (j : ℕ) → bit_at (get_or table y 0) j ≡ 1 → bit_at r j ≡ 1) x p.complete (λ i. absurd (off i));
    }
