-- The words of a family and the sets in them: the set q * 64 + i is bit i of word q, sixteen words hold sets below 1,024 only, and what
-- a store in one word does to the sets.
use mathlib.Core.Path.{◌≡◌, refl, sym, ap, ap₂, ◌∙◌, subst}
use mathlib.Core.Logic.{◌⊎◌, inl, inr}
use mathlib.Core.List.{List}
use mathlib.Core.Bool.{Bool, true, false, false≢true}
use Prim.Native.Nat.{ℕ, ◌+◌, ◌*◌, ◌/◌, ◌%◌, ◌^◌, ◌≤◌, ◌<◌}
use native.Mathlib.Nat.{mod-lt, div-add-mod'}
use native.Mathlib.Omega.{arith}
use borrow.Author.Count.{below_more}
use lib.Bits.{bit_or}
use lib.ListN.{length, get_or, set, replicate, get_or-replicate, get_or-eq_default}
use lib.Seq.{get_or-set_same, get_or-set_other}
use Rattle.std.specs.Bool.{MatchBool}
use Rattle.std.specs.List.{AllWithin, HoldsAt}
use Rattle.family.specs.Family.{bit_at, has_at, In, Empty, Single, TellsEmpty, Joined}
use Rattle.family.proofs.Numbers.{same_or_other, below_or_above}
use Rattle.family.proofs.Bits.{bit_small, no_bit, or_left, or_right, or_back, own_bit, only_own_bit, one_shifted, all_clear}

-- the set q * 64 + i, and any set so written
pub in_word : (f : List ℕ) (q i : ℕ) → i < 64 → bit_at (get_or f q 0) i ≡ 1 → In f (q * 64 + i)
in_word f q i l on =
    let e : (q * 64 + i) / 64 ≡ q = omega arith in
    let d : (q * 64 + i) % 64 ≡ i = omega arith in
    ap₂ (λ (w j : ℕ). bit_at (get_or f w 0) j) e d ∙ on

pub low_small : (t : ℕ) → t % 64 < 64
low_small t = mod-lt t (omega arith)

pub halves : (t : ℕ) → t / 64 * 64 + t % 64 ≡ t
halves t = div-add-mod' t 64

-- no set beyond the words
zero_word : (f : List ℕ) (s : ℕ) → get_or f (s / 64) 0 ≡ 0 → has_at f s ≡ 0
zero_word f s e = ap (λ (w : ℕ). bit_at w (s % 64)) e ∙ no_bit (s % 64)

module _ (f : List ℕ) (sixteen : length f ≡ 16) (s : ℕ) where
  pub has_beyond : 1024 ≤ s → has_at f s ≡ 0
  has_beyond l = zero_word f s (get_or-eq_default f 0 (omega arith))

  pub in_range : In f s → s < 1024
  in_range on = elim (below_or_above s 1024) [ inl l ↦ l | inr l ↦ absurd (omega (arith, has_beyond l)) ]

-- words that are all 0 hold no set
pub no_sets : (f : List ℕ) → length f ≡ 16 → ((k : ℕ) → k < 16 → get_or f k 0 ≡ 0) → Empty f
no_sets f sixteen zeros t on = omega (arith, in_range f sixteen t on, zero_word f t (zeros (t / 64) (omega (arith, in_range f sixteen t on))))

pub no_word : (f : List ℕ) (k : ℕ) → get_or f k 0 < 2 ^ 64 → Empty f → get_or f k 0 ≡ 0
no_word f k fits none = all_clear 64 (get_or f k 0) fits (λ i l. let d : ¬ (bit_at (get_or f k 0) i ≡ 1) = λ on. none (k * 64 + i) (in_word f k i l on) in omega (arith, bit_small (get_or f k 0) i))

-- whether all words are 0
pub tells_empty : (f : List ℕ) (r : Bool) → length f ≡ 16 → ((k : ℕ) → get_or f k 0 < 2 ^ 64)
    → MatchBool r (AllWithin (λ w. w ≡ 0) f 0 (length f)) ((k : ℕ) × (k < length f) × HoldsAt (λ w. ¬ (w ≡ 0)) f k) → TellsEmpty f r
tells_empty f true sixteen fits all = record { sound = λ e. no_sets f sixteen (λ k l. all k 0 (omega arith) (omega arith)); complete = λ none. refl }
tells_empty f false sixteen fits some = record { sound = λ e. absurd (false≢true e); complete = λ none. absurd (some.2 0 (no_word f some.0 (fits some.0) none)) }

pub none_empty : Empty (replicate 16 0)
none_empty = no_sets (replicate 16 0) refl (λ k l. get_or-replicate 16 k 0 0 l)

-- a store in one word
module _ (f : List ℕ) (q v : ℕ) (l : q < length f) (t : ℕ) where
  pub stored_back : In (set f q v) t → ((t / 64 ≡ q) × (bit_at v (t % 64) ≡ 1)) ⊎ (¬ (t / 64 ≡ q) × In f t)
  stored_back on = elim (same_or_other (t / 64) q) [
    | inl e ↦ inl (e, sym (ap (λ (w : ℕ). bit_at w (t % 64)) (ap (λ (k : ℕ). get_or (set f q v) k 0) e ∙ get_or-set_same f q v 0 l)) ∙ on)
    | inr d ↦ inr (d, sym (ap (λ (w : ℕ). bit_at w (t % 64)) (get_or-set_other f q (t / 64) v 0 d)) ∙ on)
  ]

  pub stored_here : t / 64 ≡ q → bit_at v (t % 64) ≡ 1 → In (set f q v) t
  stored_here e on = ap (λ (w : ℕ). bit_at w (t % 64)) (ap (λ (k : ℕ). get_or (set f q v) k 0) e ∙ get_or-set_same f q v 0 l) ∙ on

  pub stored_other : ¬ (t / 64 ≡ q) → In f t → In (set f q v) t
  stored_other d on = ap (λ (w : ℕ). bit_at w (t % 64)) (get_or-set_other f q (t / 64) v 0 d) ∙ on

-- the bit of s stored in its word of a family with no set: s alone
module _ (f : List ℕ) (sixteen : length f ≡ 16) (none : Empty f) (s : ℕ) (small : s < 1024) where
  abbrev own_word : ℕ
  own_word = 1 * 2 ^ (s % 64) % 2 ^ 64

  own : own_word ≡ 2 ^ (s % 64)
  own = one_shifted (s % 64) (low_small s)

  fits : s / 64 < length f
  fits = omega arith

  pub single_word : Single s (set f (s / 64) own_word)
  single_word = record {
    sound = λ t on. elim (stored_back f (s / 64) own_word fits t on) [
      | inl x ↦ (omega (arith, only_own_bit (t % 64) (s % 64) (rw own at x.1), x.0), small)
      | inr x ↦ absurd (none t x.1)
    ];
    complete = λ l. stored_here f (s / 64) own_word fits s refl (rw own (own_bit (s % 64)));
  }

-- a loop that stores g i at i
pub filled_more : (Q : ℕ → ℕ → Type 0) (r : List ℕ) (i v : ℕ) → i < length r → Q i v → ((k : ℕ) → k < i → Q k (get_or r k 0)) → (k : ℕ) → k < i + 1 → Q k (get_or (set r i v) k 0)
filled_more Q r i v l new old =
    below_more (λ k. Q k (get_or (set r i v) k 0)) i
    (λ k h. subst (Q k) (sym (get_or-set_other r i k v 0 (λ e. omega arith))) (old k h))
    (subst (Q i) (sym (get_or-set_same r i v 0 l)) new)

-- the union of two families, word by word
module _ (a b r : List ℕ) (la : length a ≡ 16) (lb : length b ≡ 16) (lr : length r ≡ 16) (words : (k : ℕ) → k < 16 → get_or r k 0 ≡ bit_or (get_or a k 0) (get_or b k 0)) where
  word : (t : ℕ) → t < 1024 → has_at r t ≡ bit_at (bit_or (get_or a (t / 64) 0) (get_or b (t / 64) 0)) (t % 64)
  word t l = ap (λ (w : ℕ). bit_at w (t % 64)) (words (t / 64) (omega arith))

  pub joined_words : Joined a b r
  joined_words = record {
    sound = λ t on. or_back (get_or a (t / 64) 0) (get_or b (t / 64) 0) (t % 64) (sym (word t (in_range r lr t on)) ∙ on);
    left = λ t on. word t (in_range a la t on) ∙ or_left (get_or a (t / 64) 0) (get_or b (t / 64) 0) (t % 64) on;
    right = λ t on. word t (in_range b lb t on) ∙ or_right (get_or a (t / 64) 0) (get_or b (t / 64) 0) (t % 64) on;
  }
