-- The numbers of codes: each is that of its code, and what a number does not see of a code.
use mathlib.Core.Path.{◌≡◌, refl, ◌∙◌, ap}
use mathlib.Core.Bool.{Bool, true, false, cond}
use mathlib.Core.List.{[], ◌∷◌}
use Prim.Native.Nat.{ℕ, zero, suc, ◌+◌, ◌-◌, ◌≤◌, ◌<◌}
use native.Mathlib.Nat.{add-sub_cancel_left}
use native.Mathlib.Omega.{arith}
use borrow.Author.Tests.{lt-ltb, le-ltb, ltb-true, ltb-false}
use lib.Dec.{ltb}
use lib.ListN.{take}
use Rattle.process.specs.Process.{Status, ok, fail}
use Rattle.outcomes.specs.Codes.{Code, size, number}
use Rattle.outcomes.specs.Joins.{code_of}

pub number_small : (n : ℕ) (c : Code) → number n c < size n
number_small zero c = omega arith
number_small (suc n) [] = omega arith
number_small (suc n) (ok ∷ c) = omega (arith, number_small n c)
number_small (suc n) (fail ∷ c) = omega (arith, number_small n c)

pub code_of_number : (n : ℕ) (c : Code) → code_of n (number n c) ≡ take n c
code_of_number zero c = refl
code_of_number (suc n) [] = refl
code_of_number (suc n) (ok ∷ c) = simp (lt-ltb _ _ (number_small n c), code_of_number n c)
code_of_number (suc n) (fail ∷ c) = let h : size n ≤ size n + number n c = omega arith in simp (le-ltb _ _ h, add-sub_cancel_left, code_of_number n c)

either_short : (n : ℕ) (b : Bool) {c d : Code} → take n c ≡ c → take n d ≡ d → take (suc n) (cond b (ok ∷ c) (fail ∷ d)) ≡ cond b (ok ∷ c) (fail ∷ d)
either_short n true x y = ap (λ c. ok ∷ c) x
either_short n false x y = ap (λ d. fail ∷ d) y

pub code_short : (n k : ℕ) → take n (code_of n k) ≡ code_of n k
code_short zero k = refl
code_short (suc n) zero = refl
code_short (suc n) (suc k) = either_short n (ltb k (size n)) (code_short n k) (code_short n (k - size n))

number_either : (n : ℕ) (b : Bool) (k : ℕ) (c d : Code) → (b ≡ true → number n c ≡ k) → (b ≡ false → size n + number n d ≡ k) → number (suc n) (cond b (ok ∷ c) (fail ∷ d)) ≡ suc k
number_either n true k c d h g = ap suc (h refl)
number_either n false k c d h g = ap suc (g refl)

pub number_of_code : (n k : ℕ) → k < size n → number n (code_of n k) ≡ k
number_of_code zero k h = omega arith
number_of_code (suc n) zero h = refl
number_of_code (suc n) (suc k) h =
    number_either n (ltb k (size n)) k (code_of n k) (code_of n (k - size n)) (λ e. number_of_code n k (ltb-true k (size n) e))
    (λ e. let z = ltb-false k (size n) e in omega (arith, number_of_code n (k - size n) (omega arith)))

pub number_step : (n : ℕ) (s : Status) (c d : Code) → number n c ≡ number n d → number (suc n) (s ∷ c) ≡ number (suc n) (s ∷ d)
number_step n ok c d e = ap suc e
number_step n fail c d e = ap (λ k. suc (size n + k)) e

pub number_take : (n m : ℕ) → n ≤ m → (c : Code) → number n (take m c) ≡ number n c
number_take zero m h c = refl
number_take (suc n) zero h c = absurd (omega arith)
number_take (suc n) (suc m) h [] = refl
number_take (suc n) (suc m) h (s ∷ c) = number_step n s (take m c) c (number_take n m (omega arith) c)

pub cut_twice : (n m : ℕ) → n ≤ m → (c : Code) → number n (take m (take m c)) ≡ number n c
cut_twice n m h c = number_take n m h (take m c) ∙ number_take n m h c
