-- The laws of `every` and `total`: what a loop over the numbers below a bound shows of them turn by turn, and what they say of each
-- number. All by induction on the bound.
use mathlib.Core.Path.{◌≡◌, refl, sym, ap, ◌∙◌}
use mathlib.Core.Bool.{Bool, true, false, true≢false, ◌&&◌, cond}
use mathlib.Core.Logic.{◌⊎◌, inl, inr}
use Prim.Native.Nat.{ℕ, zero, suc, ◌+◌, ◌≤◌, ◌<◌}
use native.Mathlib.Numerals.{add-one}
use native.Mathlib.Nat.{add-zero, add-suc, not-suc-le-zero}
use native.Mathlib.Omega.{arith}
use lib.Dec.{eqb}
use borrow.Author.Tests.{eqb-true, eqb-false}
use Rattle.blocks.specs.Bounded.{every, total, one}

-- a test, decided, with what it says
pub decide : (t : Bool) → (t ≡ true) ⊎ (t ≡ false)
decide true = inl refl
decide false = inr refl

-- a choice that is true: both parts are
pub both_true : (a b : Bool) → cond a b false ≡ true → (a ≡ true) × (b ≡ true)
both_true true b e = (refl, e)
both_true false b e = absurd (true≢false (sym e))

-- so are both parts of a conjunction
pub both_hold : (a b : Bool) → a && b ≡ true → (a ≡ true) × (b ≡ true)
both_hold true b e = (refl, e)
both_hold false b e = absurd (true≢false (sym e))

-- the last number below n + 1, or one below n
last : (n i : ℕ) → i < suc n → (i ≡ n) ⊎ (i < n)
last n i h = go (eqb i n) refl
  where
    go : (t : Bool) → eqb i n ≡ t → (i ≡ n) ⊎ (i < n)
    go true e = inl (eqb-true i n e)
    go false e = let k = eqb-false i n e in inr (omega arith)

module _ (p : ℕ → Bool) where
  pub every_more : (i : ℕ) → every i p ≡ true → p i ≡ true → every (i + 1) p ≡ true
  unfolding every
  every_more i h k = rw (add-one i, k) h

  pub every_at : (n i : ℕ) → every n p ≡ true → i < n → p i ≡ true
  unfolding every
  every_at zero i h k = absurd (not-suc-le-zero k)
  every_at (suc n) i h k =
      let (here, rest) = both_true (p n) (every n p) h in
      elim (last n i k) [ inl e ↦ rw e here | inr l ↦ every_at n i rest l ]

  pub every_all : (n : ℕ) → ((i : ℕ) → i < n → p i ≡ true) → every n p ≡ true
  unfolding every
  every_all zero h = refl
  every_all (suc n) h = rw (h n (omega arith)) (every_all n (λ i l. h i (omega arith)))

  pub every_fails : (n i : ℕ) → i < n → p i ≡ false → every n p ≡ false
  every_fails n i l e = go (decide (every n p))
    where
      go : (every n p ≡ true) ⊎ (every n p ≡ false) → every n p ≡ false
      go (inl h) = absurd (true≢false (sym (every_at n i h l) ∙ e))
      go (inr h) = h

  -- where p does not hold of each number, it fails at one
  pub every_missed : (n : ℕ) → every n p ≡ false → (i : ℕ) × (i < n) × (p i ≡ false)
  unfolding every
  every_missed zero h = absurd (true≢false h)
  every_missed (suc n) h = go (every_missed n) (p n) refl
    where
      go : (every n p ≡ false → (i : ℕ) × (i < n) × (p i ≡ false)) → (t : Bool) → p n ≡ t → (i : ℕ) × (i < suc n) × (p i ≡ false)
      go rest true e =
          let (i, l, m) = rest (rw e at h) in
          (i, omega arith, m)
      go rest false e = (n, omega arith, e)

  -- the invariant of a loop over the numbers below n that stops where p fails: p has held of those below i
  pub record Passed (n i : ℕ) : Type 0 where
    pub most : i ≤ n
    pub held : every i p ≡ true

  pub passed_none : (n : ℕ) → Passed n 0
  unfolding every
  passed_none n = record { most = omega arith; held = refl }

  pub passed_more : (n i : ℕ) → i < n → p i ≡ true → Passed n i → Passed n (i + 1)
  passed_more n i l e h = record { most = omega arith; held = every_more i h.held e }

  pub passed_all : (n i : ℕ) → n ≤ i → Passed n i → every n p ≡ true
  passed_all n i l h = let e : i ≡ n = omega (arith, h.most) in rw e at h.held

module _ (g : ℕ → ℕ) where
  pub total_more : (i : ℕ) → total (i + 1) g ≡ g i + total i g
  unfolding total
  total_more i = rw (add-one i)

  -- a sum has a term and those before it
  pub total_upto : (n i : ℕ) → i < n → g i + total i g ≤ total n g
  unfolding total
  total_upto zero i h = absurd (not-suc-le-zero h)
  total_upto (suc n) i h = elim (last n i h) [ inl e ↦ rw e (omega arith) | inr l ↦ omega (arith, total_upto n i l) ]

  pub total_has : (n i : ℕ) → i < n → g i ≤ total n g
  total_has n i h = omega (arith, total_upto n i h)

  pub total_two : (n i j : ℕ) → i < n → j < n → (i ≡ j → ⊥) → g i + g j ≤ total n g
  unfolding total
  total_two zero i j h k d = absurd (not-suc-le-zero h)
  total_two (suc n) i j h k d = go (λ l m. total_two n i j l m d) (last n i h) (last n j k)
    where
      go : (i < n → j < n → g i + g j ≤ total n g) → (i ≡ n) ⊎ (i < n) → (j ≡ n) ⊎ (j < n) → g i + g j ≤ g n + total n g
      go rest (inl e) (inl f) = absurd (d (e ∙ sym f))
      go rest (inl e) (inr l) = rw e (omega (arith, total_has n j l))
      go rest (inr l) (inl f) = rw f (omega (arith, total_has n i l))
      go rest (inr l) (inr m) = omega (arith, rest l m)

  -- a sum that is not 0 has a term that is not
  pub total_some : (n : ℕ) → 0 < total n g → (i : ℕ) × (i < n) × (0 < g i)
  unfolding total
  total_some zero h = absurd (not-suc-le-zero h)
  total_some (suc n) h = go (total_some n) (eqb (g n) 0) refl
    where
      go : (0 < total n g → (i : ℕ) × (i < n) × (0 < g i)) → (t : Bool) → eqb (g n) 0 ≡ t → (i : ℕ) × (i < suc n) × (0 < g i)
      go rest true e =
          let k = eqb-true (g n) 0 e in
          let (i, l, m) = rest (omega arith) in
          (i, omega arith, m)
      go rest false e = let k = eqb-false (g n) 0 e in (n, omega arith, omega arith)

  pub total_none : (n : ℕ) → ((i : ℕ) → i < n → g i ≡ 0) → total n g ≡ 0
  unfolding total
  total_none zero h = refl
  total_none (suc n) h = omega (arith, h n (omega arith), total_none n (λ i l. h i (omega arith)))

  -- a sum has the terms before a, and those from a on
  pub total_split : (a k : ℕ) → total (a + k) g ≡ total a g + total k (λ i. g (a + i))
  unfolding total
  total_split a zero = rw (add-zero a) (omega arith)
  total_split a (suc k) = rw (add-suc a k) (omega (arith, total_split a k))

-- two sums whose terms are the same
pub total_same : (g h : ℕ → ℕ) (n : ℕ) → ((i : ℕ) → i < n → g i ≡ h i) → total n g ≡ total n h
unfolding total
total_same g h zero same = refl
total_same g h (suc n) same = omega (arith, same n (omega arith), total_same g h n (λ i l. same i (omega arith)))

-- or the same but at k
pub total_but : (g h : ℕ → ℕ) (n k : ℕ) → k < n → ((i : ℕ) → i < n → (i ≡ k → ⊥) → g i ≡ h i) → total n g + h k ≡ total n h + g k
unfolding total
total_but g h zero k l same = absurd (not-suc-le-zero l)
total_but g h (suc n) k l same = go (λ m. total_but g h n k m (λ i j d. same i (omega arith) d)) (last n k l)
  where
    go : (k < n → total n g + h k ≡ total n h + g k) → (k ≡ n) ⊎ (k < n) → g n + total n g + h k ≡ h n + total n h + g k
    go rest (inl e) = rw e (omega (arith, total_same g h n (λ i j. same i (omega arith) (λ z. omega arith))))
    go rest (inr m) = omega (arith, rest m, same n (omega arith) (λ z. omega arith))

-- a sum with one term that is not 0
pub total_single : (g : ℕ → ℕ) (n k : ℕ) → k < n → ((i : ℕ) → i < n → (i ≡ k → ⊥) → g i ≡ 0) → total n g ≡ g k
total_single g n k l others = omega (arith, total_but g (λ i. 0) n k l others, total_none (λ i. 0) n (λ i h. refl))

-- a sum of sums
pub total_sum : (g h : ℕ → ℕ) (n : ℕ) → total n (λ i. g i + h i) ≡ total n g + total n h
unfolding total
total_sum g h zero = refl
total_sum g h (suc n) = omega (arith, total_sum g h n)

-- the order of two sums
pub total_exchanged : (g : ℕ → ℕ → ℕ) (m n : ℕ) → total n (λ j. total m (λ i. g i j)) ≡ total m (λ i. total n (g i))
unfolding total
total_exchanged g zero n = total_none (λ j. 0) n (λ j l. refl)
total_exchanged g (suc m) n = total_sum (g m) (λ j. total m (λ i. g i j)) n ∙ ap (λ (k : ℕ). total n (g m) + k) (total_exchanged g m n)

-- a sum of smaller terms
pub total_below : (g h : ℕ → ℕ) (n : ℕ) → ((i : ℕ) → i < n → g i ≤ h i) → total n g ≤ total n h
unfolding total
total_below g h zero le = omega arith
total_below g h (suc n) le = omega (arith, le n (omega arith), total_below g h n (λ i l. le i (omega arith)))

-- what is counted holds
pub one_holds : (t : Bool) → 0 < one t → t ≡ true
one_holds true h = refl
one_holds false h = absurd (omega arith)

pub one_most : (t : Bool) → one t ≤ 1
one_most true = omega arith
one_most false = omega arith

-- no more are counted than are tried
pub count_most : (p : ℕ → Bool) (n : ℕ) → total n (λ i. one (p i)) ≤ n
unfolding total
count_most p zero = omega arith
count_most p (suc n) = omega (arith, one_most (p n), count_most p n)
