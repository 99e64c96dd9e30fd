-- What a text is after more is put into it.
use mathlib.Core.Path.{◌≡◌, refl}
use mathlib.Core.List.{List, [], ◌∷◌, ◌++◌}
use Prim.Native.Nat.{ℕ, zero, suc, ◌+◌, ◌-◌, ◌*◌, ◌≤◌, ◌<◌}
use native.Mathlib.Nat.{mul-suc}
use native.Mathlib.Omega.{arith}
use lib.ListN.{length, length-append}
use Rattle.text.specs.Decimal.{decimal}
use Rattle.text.specs.Text.{empty, pushed, appended, text_of}
use Rattle.text.specs.declared.Text.{Text}
use Rattle.text.proofs.Decimals.{decimal_length}
use Rattle.text.proofs.Texts.{appended_both, appended_one, appended_empty}
use Rattle.text.specs.Lines.{line, numbered, each}

pub lined : (t : Text) (l : List ℕ) → pushed (appended t l) 10 ≡ appended t (line l)
lined t l = rw (appended_both, appended_one)

pub appended_first : (t : Text) (b : ℕ) (l : List ℕ) → appended (pushed t b) l ≡ appended t (b ∷ l)
unfolding appended
appended_first t b l = refl

-- one list put after another
pub put_both : {r p : Text} (t : Text) (x y : List ℕ) → r ≡ appended p y → p ≡ appended t x → r ≡ appended t (x ++ y)
put_both t x y e f = rw (e, f, appended_both)

-- a list put into the empty text
pub put_alone : {r t : Text} (l : List ℕ) → r ≡ appended t l → t ≡ empty → length l ≤ 640 → r ≡ text_of l
put_alone l e z h = rw (e, z) (appended_empty l h)

-- how long a line with a number is
pub numbered_length : (word : List ℕ) (n : ℕ) → length (numbered word n) ≡ length word + length (decimal n) + 2
numbered_length word n = rw (length-append word (32 ∷ line (decimal n)), length-append (decimal n) (10 ∷ [])) (omega arith)

-- a word of at most 10 bytes, and any number
pub numbered_short : (word : List ℕ) (n : ℕ) → length word ≤ 10 → length (numbered word n) ≤ 32
numbered_short word n h = omega (arith, numbered_length word n, decimal_length n)

-- what is given for each of the numbers up to n: one more, and none after the last
module _ (t : Text) (f : ℕ → List ℕ) (n i : ℕ) where
  pub each_step : i < n → appended t (each f i (n - i)) ≡ appended (appended t (f i)) (each f (i + 1) (n - (i + 1)))
  unfolding each
  each_step h =
      let e : n - i ≡ suc (n - (i + 1)) = omega arith in
      rw e (appended_both t (f i) (each f (i + 1) (n - (i + 1))))

  pub each_end : n ≤ i → appended t (each f i (n - i)) ≡ t
  unfolding each appended
  each_end h =
      let e : n - i ≡ 0 = omega arith in
      rw e

pub each_few : (f : ℕ → List ℕ) (m i k : ℕ) → ((j : ℕ) → j < i + k → length (f j) ≤ m) → length (each f i k) ≤ m * k
unfolding each
each_few f m i zero h = omega arith
each_few f m i (suc k) h =
    let one = h i (omega arith) in
    let rest = each_few f m (i + 1) k (λ j l. h j (omega arith)) in
    simp length-append (omega (arith, one, rest, mul-suc m k))
