-- How many pairs there can be: of one action no four, and with up to n actions, n being 5 or more, at most three for each of n - 3. An action with k pairs
-- has k undos, which are first in no pair; so no action has more pairs than there are actions without one, and those that have pairs are the rest.
use mathlib.Core.Path.{◌≡◌, refl, sym, ap, ◌∙◌}
use mathlib.Core.Bool.{Bool, true, false, not, ◌&&◌}
use mathlib.Core.List.{List}
use mathlib.Core.Logic.{inl, inr}
use Prim.Native.Nat.{ℕ, zero, suc, ◌+◌, ◌-◌, ◌*◌, ◌≤◌, ◌<◌}
use native.Mathlib.Nat.{mul-add, mul-zero, mul-one}
use native.Mathlib.Omega.{arith}
use lib.Dec.{eqb}
use borrow.Author.Tests.{eq-eqb, ne_eqb, eqb-true, eqb-false}
use Rattle.blocks.specs.Bounded.{total, one}
use Rattle.blocks.proofs.Bounded.{decide, both_hold, total_upto, total_some, total_none, total_single, total_same, total_sum, total_exchanged, total_below, one_holds, one_most}
use Rattle.bodies.specs.Pairs.{Pairs, pair_count, first, second, is_pair, pairs_of}

total_ones : (n : ℕ) → total n (λ i. 1) ≡ n
unfolding total
total_ones zero = refl
total_ones (suc n) = omega (arith, total_ones n)

total_times : (k : ℕ) (g : ℕ → ℕ) (n : ℕ) → total n (λ i. k * g i) ≡ k * total n g
unfolding total
total_times k g zero = sym (mul-zero k)
total_times k g (suc n) = ap (λ (m : ℕ). k * g n + m) (total_times k g n) ∙ sym (mul-add k (g n) (total n g))

one_of_two : (t : Bool) → one t + one (not t) ≡ 1
one_of_two true = refl
one_of_two false = refl

-- just one number is equal to v
total_equal : (v n : ℕ) → v < n → (t : Bool) → total n (λ u. one (t && eqb v u)) ≡ one t
total_equal v n l true = total_single (λ u. one (eqb v u)) n v l (λ u h d. rw (ne_eqb v u (λ e. d (sym e)))) ∙ rw (eq-eqb v v refl)
total_equal v n l false = total_none (λ u. 0) n (λ u h. refl)

module _ (actions : ℕ) (b : List ℕ) (p : Pairs actions b) where
  none : ℕ → ℕ
  none a = one (eqb (pairs_of b a) 0)

  some : ℕ → ℕ
  some a = one (not (eqb (pairs_of b a) 0))

  none_or_some : total actions none + total actions some ≡ actions
  unfolding none some
  none_or_some =
      sym (total_sum (λ a. one (eqb (pairs_of b a) 0)) (λ a. one (not (eqb (pairs_of b a) 0))) actions)
      ∙ total_same (λ a. one (eqb (pairs_of b a) 0) + one (not (eqb (pairs_of b a) 0))) (λ a. 1) actions (λ a l. one_of_two (eqb (pairs_of b a) 0))
      ∙ total_ones actions

  -- four pairs with one first would be counted
  pub no_fourth : (h i j k : ℕ) → h < i → i < j → j < k → k < pair_count b
      → first b h ≡ first b k → first b i ≡ first b k → first b j ≡ first b k → ⊥
  no_fourth h i j k hi ij jk l eh ei ej =
      let g : ℕ → ℕ = λ n. one (eqb (first b n) (first b k)) in
      let at : (n : ℕ) → first b n ≡ first b k → g n ≡ 1 = λ n e. rw (eq-eqb (first b n) (first b k) e) in
      omega (arith, p.few (first b k), total_upto g (pair_count b) k l, total_upto g k j jk, total_upto g j i ij, total_upto g i h hi, at h eh, at i ei, at j ej, at k refl)

  -- each pair is counted at its first
  all_pairs : total actions (pairs_of b) ≡ pair_count b
  all_pairs =
      total_exchanged (λ i a. one (eqb (first b i) a)) (pair_count b) actions
      ∙ total_same (λ i. total actions (λ a. one (eqb (first b i) a))) (λ i. 1) (pair_count b) (λ i l. total_equal (first b i) actions (p.numbers i l).0 true)
      ∙ total_ones (pair_count b)

  -- the pairs of a with the undo u: one at the most, and then u has no pairs
  same_pair : (a u i j : ℕ) → i < pair_count b → j < pair_count b → is_pair b a u i ≡ true → is_pair b a u j ≡ true → i ≡ j
  same_pair a u i j h k here there =
      let (fi, si) = both_hold (eqb (first b i) a) (eqb (second b i) u) here in
      let (fj, sj) = both_hold (eqb (first b j) a) (eqb (second b j) u) there in
      p.different i j h k (eqb-true _ _ fi ∙ sym (eqb-true _ _ fj)) (eqb-true _ _ si ∙ sym (eqb-true _ _ sj))

  no_pair : (a u i : ℕ) → i < pair_count b → is_pair b a u i ≡ true → pairs_of b u ≡ 0
  no_pair a u i h here =
      let undo = eqb-true (second b i) u (both_hold (eqb (first b i) a) (eqb (second b i) u) here).1 in
      total_none (λ j. one (eqb (first b j) u)) (pair_count b) (λ j k. rw (ne_eqb (first b j) u (λ e. p.apart j i k h (e ∙ sym undo))))

  one_pair : (a u : ℕ) → total (pair_count b) (λ i. one (is_pair b a u i)) ≤ none u
  unfolding none
  one_pair a u = elim (decide (eqb (total (pair_count b) (λ i. one (is_pair b a u i))) 0)) [
    | inl e ↦ omega (arith, eqb-true (total (pair_count b) (λ i. one (is_pair b a u i))) 0 e)
    | inr e ↦
        let k = eqb-false (total (pair_count b) (λ i. one (is_pair b a u i))) 0 e in
        let (i, l, c) = total_some (λ i. one (is_pair b a u i)) (pair_count b) (omega arith) in
        let here = one_holds (is_pair b a u i) c in
        let single = total_single (λ i. one (is_pair b a u i)) (pair_count b) i l (λ j m d. elim (decide (is_pair b a u j)) [
          | inl t ↦ absurd (d (same_pair a u j i m l t here))
          | inr t ↦ rw t
        ]) in
        rw (no_pair a u i l here) (omega (arith, single, one_most (is_pair b a u i)))
  ]

  -- so no action has more pairs than there are actions without
  pairs_none : (a : ℕ) → pairs_of b a ≤ total actions none
  pairs_none a =
      let each = total_same (λ i. total actions (λ u. one (is_pair b a u i))) (λ i. one (eqb (first b i) a)) (pair_count b) (λ i l. total_equal (second b i) actions (p.numbers i l).1 (eqb (first b i) a)) in
      let at_most = total_below (λ u. total (pair_count b) (λ i. one (is_pair b a u i))) none actions (λ u l. one_pair a u) in
      omega (arith, each, total_exchanged (λ i u. one (is_pair b a u i)) (pair_count b) actions, at_most)

  -- at most k for each action that has some
  pairs_times : (k : ℕ) → ((a : ℕ) → pairs_of b a ≤ k) → pair_count b ≤ k * total actions some
  unfolding some
  pairs_times k few =
      omega (arith, all_pairs, total_below (pairs_of b) (λ a. k * some a) actions (λ a l. at a), total_times k some actions)
    where
      at : (a : ℕ) → pairs_of b a ≤ k * some a
      at a = elim (decide (eqb (pairs_of b a) 0)) [
        | inl e ↦ omega (arith, eqb-true (pairs_of b a) 0 e)
        | inr e ↦ rw (e, mul-one k) (few a)
      ]

  pub most_pairs_lem : (limit : ℕ) → 5 ≤ limit → actions ≤ limit → pair_count b ≤ 3 * (limit - 3)
  most_pairs_lem limit five within = go (total actions none) (total actions some) none_or_some (pairs_times 3 p.few) (pairs_times (total actions none) pairs_none)
    where
      go : (z s : ℕ) → z + s ≡ actions → pair_count b ≤ 3 * s → pair_count b ≤ z * s → pair_count b ≤ 3 * (limit - 3)
      go zero s e three few = omega arith
      go (suc zero) s e three few = omega arith
      go (suc (suc zero)) s e three few = omega arith
      go (suc (suc (suc z))) s e three few = omega arith
