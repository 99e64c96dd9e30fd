-- The digits of a number are its decimal text, and how many they are.
use mathlib.Core.Path.{◌≡◌, refl, sym, ap, ◌∙◌}
use mathlib.Core.Bool.{Bool, true, false}
use mathlib.Core.List.{List, [], ◌∷◌, ◌++◌}
use Prim.Native.Nat.{ℕ, zero, suc, ◌+◌, ◌/◌, ◌%◌, ◌^◌, ◌≤◌, ◌<◌}
use native.Mathlib.Nat.{pow-succ'}
use native.Mathlib.Omega.{arith}
use lib.Dec.{ltb}
use lib.ListN.{length, length-append}
use borrow.Author.Tests.{lt-ltb, le-ltb, ltb-true, ltb-false}
use Rattle.text.specs.Text.{pushed, appended}
use Rattle.text.specs.declared.Text.{Text}
use Rattle.text.proofs.Texts.{appended_both, appended_one}
use Rattle.text.specs.Decimal.{Decimal, digit, more, digits, decimal, Spells}

-- the tenth part has a digit less
tenth_below : (k n : ℕ) → n < 10 ^ suc k → n / 10 < 10 ^ k
tenth_below k n h = omega (arith, pow-succ' 10 k)

pub digits_small : (k n : ℕ) → n < 10 → digits (suc k) n ≡ (48 + n) ∷ []
unfolding digits
digits_small k n h = rw (lt-ltb n 10 h)

pub digits_large : (k n : ℕ) → 10 ≤ n → digits (suc k) n ≡ digits k (n / 10) ++ ((48 + n % 10) ∷ [])
unfolding digits
digits_large k n h = rw (le-ltb n 10 h)

-- one more digit than a number needs changes nothing
enough_by : (k n : ℕ) (small : Bool) → ltb n 10 ≡ small → digits k (n / 10) ≡ digits (suc k) (n / 10) → digits (suc k) n ≡ digits (suc (suc k)) n
enough_by k n true e h = digits_small k n (ltb-true n 10 e) ∙ sym (digits_small (suc k) n (ltb-true n 10 e))
enough_by k n false e h =
    digits_large k n (ltb-false n 10 e) ∙ (ap (λ (l : List ℕ). l ++ ((48 + n % 10) ∷ [])) h ∙ sym (digits_large (suc k) n (ltb-false n 10 e)))

digits_enough : (k n : ℕ) → n < 10 ^ suc k → digits (suc k) n ≡ digits (suc (suc k)) n
digits_enough zero n h = digits_small zero n h ∙ sym (digits_small (suc zero) n h)
digits_enough (suc k) n h = enough_by (suc k) n (ltb n 10) refl (digits_enough k (n / 10) (tenth_below (suc k) n h))

-- the digits before the last one are those of the tenth part
pub decimal_large : (n : ℕ) → 10 ≤ n → n < 10 ^ 20 → decimal n ≡ decimal (n / 10) ++ ((48 + n % 10) ∷ [])
decimal_large n l h = digits_large 19 n l ∙ ap (λ (t : List ℕ). t ++ ((48 + n % 10) ∷ [])) (digits_enough 18 (n / 10) (tenth_below 19 n h))

pub decimal_small : (n : ℕ) → n < 10 → decimal n ≡ (48 + n % 10) ∷ []
decimal_small n h =
    let e : n % 10 ≡ n = omega arith in
    rw e (digits_small 19 n h)

right_by : (k n : ℕ) (small : Bool) → ltb n 10 ≡ small → Decimal (n / 10) (digits k (n / 10)) → Decimal n (digits (suc k) n)
right_by k n true e h = digit (ltb-true n 10 e) (digits_small k n (ltb-true n 10 e))
right_by k n false e h =
    let l = ltb-false n 10 e in
    more {n = n} (n / 10) (n % 10) (digits k (n / 10)) (omega arith) (omega arith) h (omega arith) (digits_large k n l)

digits_right : (k n : ℕ) → n < 10 ^ suc k → Decimal n (digits (suc k) n)
digits_right zero n h = digit h (digits_small zero n h)
digits_right (suc k) n h = right_by (suc k) n (ltb n 10) refl (digits_right k (n / 10) (tenth_below (suc k) n h))

-- the digits of a number are its decimal text
pub spells : Spells
spells = record { right = λ n h. digits_right 19 n h }

-- how many digits there are: at most as many as are asked for, and as the number has
short_by : (j m n : ℕ) (small : Bool) → ltb n 10 ≡ small → length (digits j (n / 10)) ≤ m → length (digits (suc j) n) ≤ suc m
short_by j m n true e h = rw (digits_small j n (ltb-true n 10 e)) (omega arith)
short_by j m n false e h = rw (digits_large j n (ltb-false n 10 e)) (simp length-append (omega arith))

digits_at_most : (k n : ℕ) → length (digits k n) ≤ k
unfolding digits
digits_at_most zero n = omega arith
digits_at_most (suc k) n = short_by k k n (ltb n 10) refl (digits_at_most k (n / 10))

digits_short : (k j n : ℕ) → n < 10 ^ suc k → length (digits j n) ≤ suc k
unfolding digits
digits_short k zero n h = omega arith
digits_short zero (suc j) n h = rw (digits_small j n h) (omega arith)
digits_short (suc k) (suc j) n h = short_by j (suc k) n (ltb n 10) refl (digits_short k j (n / 10) (tenth_below (suc k) n h))

pub decimal_length : (n : ℕ) → length (decimal n) ≤ 20
decimal_length n = digits_at_most 20 n

-- a byte has at most 3 digits
pub decimal_of_byte : (n : ℕ) → n < 1000 → length (decimal n) ≤ 3
decimal_of_byte n h = digits_short 2 20 n h

-- a number is put into a text by its tenth part and then its last digit
pub put_small : (t : Text) (n : ℕ) → n < 10 → pushed t (48 + n % 10) ≡ appended t (decimal n)
put_small t n h = rw (decimal_small n h, appended_one)

pub put_large : (t : Text) (n : ℕ) → 10 ≤ n → n < 10 ^ 20 → pushed (appended t (decimal (n / 10))) (48 + n % 10) ≡ appended t (decimal n)
put_large t n l h = rw (decimal_large n l h, appended_both, appended_one)
