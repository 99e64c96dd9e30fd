-- What a mask says of a set: it shares with the mask of an action's undos as many actions as undos of that action are finished. One bit more in a
-- mask is one action more where the set has it and the mask did not; the rest is induction on the pairs.
use mathlib.Core.Path.{◌≡◌, refl, sym, ap, ap₂, ◌∙◌}
use mathlib.Core.Bool.{Bool, true, false, not, ◌&&◌, cond}
use mathlib.Core.List.{List}
use mathlib.Core.Logic.{inl, inr}
use Prim.Native.Nat.{ℕ, zero, suc, ◌+◌, ◌*◌, ◌/◌, ◌^◌, ◌≤◌, ◌<◌, max}
use native.Mathlib.Nat.{div-eq_of_lt, zero-add, mul-one, mul-zero}
use native.Mathlib.Omega.{arith}
use lib.Bits.{bit_or, or_zero_r}
use lib.Dec.{eqb}
use lib.ListN.{get_or}
use lib.Pow.{pow_mono}
use borrow.Author.Tests.{eq-eqb, ne_eqb, eqb-true, lt-ltb, le-ltb}
use Rattle.blocks.specs.Bounded.{every, total, one}
use Rattle.blocks.proofs.Bounded.{decide, total_none, total_but}
use Rattle.bodies.specs.Pairs.{pair_count, first, second, is_pair}
use Rattle.family.specs.Family.{bit_at}
use Rattle.family.proofs.Numbers.{same_or_other, below_or_above}
use Rattle.family.proofs.Bits.{bit_or_lem, bit_small, no_bit, own_bit, only_own_bit}
use Rattle.meaning.specs.Literal.{finished, undone_by, is_new, undos_finished}
use Rattle.undos.specs.Masks.{bit, undo_bit, undos_in, Masks}
use Rattle.rule.specs.Words.{shared}

-- a bit as a test's answer
pub one_bit : (b : ℕ) → b < 2 → b ≡ one (eqb b 1)
one_bit b l = elim (same_or_other b 1) [ inl e ↦ rw (eq-eqb b 1 e) e | inr d ↦ rw (ne_eqb b 1 d) (omega arith) ]

pub has : (set a : ℕ) → bit_at set a ≡ one (finished set a)
has set a = one_bit (bit_at set a) (bit_small set a)

-- a power of two has no other bit
pub other_bit : (u i : ℕ) → ¬ (i ≡ u) → bit_at (2 ^ u) i ≡ 0
other_bit u i d = elim (same_or_other (bit_at (2 ^ u) i) 1) [
  | inl e ↦ absurd (d (only_own_bit i u e))
  | inr e ↦ omega (arith, bit_small (2 ^ u) i)
]

pub shared_none : (set : ℕ) → shared set 0 ≡ 0
unfolding shared
shared_none set = total_none (λ a. bit_at set a * bit_at 0 a) 64 (λ a l. ap (λ (n : ℕ). bit_at set a * n) (no_bit a) ∙ mul-zero (bit_at set a))

-- two masks that differ at u at most, of which one has the bit u
pub shared_bit : (set m more u : ℕ) → u < 64 → bit_at more u ≡ 1 → ((i : ℕ) → ¬ (i ≡ u) → bit_at more i ≡ bit_at m i)
    → shared set more + one (finished set u) * bit_at m u ≡ shared set m + one (finished set u)
unfolding shared
shared_bit set m more u l on same =
    let but = total_but (λ a. bit_at set a * bit_at more a) (λ a. bit_at set a * bit_at m a) 64 u l (λ i h d. ap (λ (n : ℕ). bit_at set i * n) (same i d)) in
    let one_more : bit_at set u * bit_at more u ≡ one (finished set u) = ap (λ (n : ℕ). bit_at set u * n) on ∙ mul-one (bit_at set u) ∙ has set u in
    ap (λ (n : ℕ). shared set more + n * bit_at m u) (sym (has set u)) ∙ but ∙ ap (λ (n : ℕ). shared set m + n) one_more

-- the bits of the mask of an action: those of its undos
own_of : (v u : ℕ) → u < 64 → bit_at (bit v) u ≡ one (eqb v u)
own_of v u l = elim (same_or_other v u) [
  | inl e ↦ rw (e, lt-ltb u 64 l, eq-eqb u u refl) (own_bit u)
  | inr d ↦ rw (ne_eqb v u d) (elim (below_or_above v 64) [
    | inl h ↦ rw (lt-ltb v 64 h) (other_bit v u (λ e. d (sym e)))
    | inr h ↦ rw (le-ltb v 64 h) (no_bit u)
  ])
]

undo_bit_lem : (pairs : List ℕ) (a i u : ℕ) → u < 64 → bit_at (undo_bit pairs a i) u ≡ one (is_pair pairs a u i)
undo_bit_lem pairs a i u l = go (eqb (first pairs i) a)
  where
    go : (t : Bool) → bit_at (cond t (bit (second pairs i)) 0) u ≡ one (t && eqb (second pairs i) u)
    go true = own_of (second pairs i) u l
    go false = no_bit u

some_more : (p e : Bool) → max (one (not e)) (one p) ≡ one (not (cond (not p) e false))
some_more true true = refl
some_more true false = refl
some_more false true = refl
some_more false false = refl

mask_bit : (pairs : List ℕ) (a u : ℕ) → u < 64 → (n : ℕ) → bit_at (undos_in n pairs a) u ≡ one (not (every n (λ j. not (is_pair pairs a u j))))
unfolding undos_in every
mask_bit pairs a u l zero = no_bit u
mask_bit pairs a u l (suc n) =
    bit_or_lem (undos_in n pairs a) (undo_bit pairs a n) u
    ∙ ap₂ max (mask_bit pairs a u l n) (undo_bit_lem pairs a n u l)
    ∙ some_more (is_pair pairs a u n) (every n (λ j. not (is_pair pairs a u j)))

-- a finished undo counts where its bit is new
counts_new : (x e : Bool) (s m : ℕ) → s + one x * one (not e) ≡ m + one x → s ≡ one (x && e) + m
counts_new true true s m h = omega arith
counts_new true false s m h = omega arith
counts_new false e s m h = omega (arith, mul-zero (one (not e)))

module _ (set : ℕ) (small : set < 2 ^ 64) where
  past : (a : ℕ) → 64 ≤ a → finished set a ≡ false
  past a l =
      let e : set / 2 ^ a ≡ 0 = div-eq_of_lt (omega (arith, pow_mono {i = 64} {j = a} l)) in
      rw e

  module _ (pairs : List ℕ) (a : ℕ) where
    -- the undo of a pair of the action, put into the mask
    shared_undo : (n : ℕ) → first pairs n ≡ a
        → shared set (bit_or (undos_in n pairs a) (bit (second pairs n))) ≡ one (finished set (second pairs n) && is_new pairs n) + shared set (undos_in n pairs a)
    shared_undo n e = elim (below_or_above (second pairs n) 64) [
      | inr l ↦ rw (le-ltb (second pairs n) 64 l, or_zero_r (undos_in n pairs a), past (second pairs n) l) (sym (zero-add (shared set (undos_in n pairs a))))
      | inl l ↦
          let u = second pairs n in
          let m = undos_in n pairs a in
          let on : bit_at (bit_or m (2 ^ u)) u ≡ 1 = omega (arith, bit_or_lem m (2 ^ u) u, own_bit u, bit_small m u) in
          let rest = shared_bit set m (bit_or m (2 ^ u)) u l on (λ i d. omega (arith, bit_or_lem m (2 ^ u) i, other_bit u i d)) in
          rw (lt-ltb u 64 l, e) (counts_new (finished set u) (every n (λ j. not (is_pair pairs a u j))) _ _ (rw (mask_bit pairs a u l n) at rest))
    ]

    shared_undos : (n : ℕ) → shared set (undos_in n pairs a) ≡ total n (λ i. one (undone_by pairs set a i && is_new pairs i))
    unfolding undos_in total
    shared_undos zero = shared_none set
    shared_undos (suc n) = elim (decide (eqb (first pairs n) a)) [
      | inl e ↦ rw e (shared_undo n (eqb-true _ _ e) ∙ ap (λ (m : ℕ). one (finished set (second pairs n) && is_new pairs n) + m) (shared_undos n))
      | inr e ↦ rw (e, or_zero_r (undos_in n pairs a)) (shared_undos n ∙ sym (zero-add (total n (λ i. one (undone_by pairs set a i && is_new pairs i)))))
    ]

  -- with the mask of an action a set shares the undos of it that are finished
  pub shared_mask : (pairs masks : List ℕ) → Masks pairs masks → (a : ℕ) → a < 256 → shared set (get_or masks a 0) ≡ undos_finished pairs set a
  shared_mask pairs masks m a l = rw (m.undos a l) (shared_undos pairs a (pair_count pairs))
