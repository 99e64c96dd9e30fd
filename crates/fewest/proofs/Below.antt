-- Some number below a bound that passes a test, and how many do, by the words of the crate blocks.
use mathlib.Core.Path.{◌≡◌, refl}
use mathlib.Core.Bool.{Bool, true, false, not, cond, ◌||◌}
use mathlib.Core.Logic.{◌⊎◌, inl, inr}
use Prim.Native.Nat.{ℕ, zero, suc, ◌+◌, ◌<◌}
use native.Mathlib.Nat.{eq-or-lt_of_le}
use native.Mathlib.Omega.{arith}
use Rattle.blocks.specs.Bounded.{every, total, one}
use Rattle.fewest.specs.Search.{any_below, count_where}

or_right : (a : Bool) → (a || true) ≡ true
or_right true = refl
or_right false = refl

pub any_true : (n : ℕ) (test : ℕ → Bool) (i : ℕ) → i < n → test i ≡ true → any_below n test ≡ true
any_true zero test i h e = absurd (omega arith)
any_true (suc n) test i h e = by (eq-or-lt_of_le {n = i} {m = n} (omega arith)) (λ l. any_true n test i l e)
  where
    by : (i ≡ n) ⊎ (i < n) → (i < n → any_below n test ≡ true) → any_below (suc n) test ≡ true
    by (inl z) f = rw (← z, e)
    by (inr l) f = rw (f l) (or_right (test n))

-- not every number fails
pub any_every : (n : ℕ) (test : ℕ → Bool) → not (every n (λ i. not (test i))) ≡ any_below n test
unfolding every
any_every zero test = refl
any_every (suc n) test = go (test n) (any_every n test)
  where
    go : (b : Bool) → not (every n (λ i. not (test i))) ≡ any_below n test → not (cond (not b) (every n (λ i. not (test i))) false) ≡ (b || any_below n test)
    go true e = refl
    go false e = e

pub count_total : (n : ℕ) (test : ℕ → Bool) → total n (λ i. one (test i)) ≡ count_where n test
unfolding total
count_total zero test = refl
count_total (suc n) test = go (test n) (count_total n test)
  where
    go : (b : Bool) → total n (λ i. one (test i)) ≡ count_where n test → one b + total n (λ i. one (test i)) ≡ cond b 1 0 + count_where n test
    go true e = rw e
    go false e = rw e
