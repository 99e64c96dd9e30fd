-- Sets of leaves as numbers: which leaves the union of two sets holds, each taken where a test says so, and which the set of one leaf.
use mathlib.Core.Path.{◌≡◌, refl, sym, ◌∙◌, ap}
use mathlib.Core.Bool.{Bool, true, false}
use mathlib.Core.Logic.{◌⊎◌, inl, inr}
use Prim.Native.Nat.{ℕ, suc, ◌+◌, ◌-◌, ◌*◌, ◌/◌, ◌%◌, ◌^◌, ◌<◌, max}
use native.Mathlib.Nat.{one-mul, mod-eq_of_lt, zero-div, div-eq_of_lt, pow-suc, mul-mod_left}
use native.Mathlib.Omega.{arith}
use lib.Dec.{eqb, ltb}
use lib.Pow.{pow-lt, pow-add, shl-shr}
use lib.Bits.{bit_or, or_shr, or_step}
use borrow.Author.Tests.{eqb-true, ltb-true, ltb-false, eqb-false}
use Rattle.runs.specs.Cells.{Holds, only, given}

or_odd : (a b : ℕ) → bit_or a b % 2 ≡ max (a % 2) (b % 2)
or_odd a b = omega (arith, or_step a b)

bit_or_lem : (a b n : ℕ) → bit_or a b / 2 ^ n % 2 ≡ max (a / 2 ^ n % 2) (b / 2 ^ n % 2)
bit_or_lem a b n = ap (λ (x : ℕ). x % 2) (or_shr a b n) ∙ or_odd (a / 2 ^ n) (b / 2 ^ n)

max_one : (x y : ℕ) → max (x % 2) (y % 2) ≡ 1 → (x % 2 ≡ 1) ⊎ (y % 2 ≡ 1)
max_one x y h = by (eqb (x % 2) 1) refl
  where
    by : (b : Bool) → eqb (x % 2) 1 ≡ b → (x % 2 ≡ 1) ⊎ (y % 2 ≡ 1)
    by true e = inl (eqb-true (x % 2) 1 e)
    by false e = inr (omega (arith, eqb-false (x % 2) 1 e))

pub holds_none : (n : ℕ) → ¬ Holds 0 n
holds_none n h = let z = ap (λ (x : ℕ). x % 2) (zero-div (2 ^ n)) in omega arith

module _ (n : ℕ) where
  given_holds : (test : Bool) (x : ℕ) → Holds (given test x) n → (test ≡ true) × Holds x n
  given_holds true x h = (refl, h)
  given_holds false x h = absurd (holds_none n h)

  -- A leaf of the union is in one of the sets, and its test holds.
  pub union_holds : {C : Type 0} (a b : Bool) (x y : ℕ) → Holds (bit_or (given a x) (given b y)) n → (a ≡ true → Holds x n → C) → (b ≡ true → Holds y n → C) → C
  union_holds {C} a b x y h f g = by (max_one (given a x / 2 ^ n) (given b y / 2 ^ n) (sym (bit_or_lem (given a x) (given b y) n) ∙ h))
    where
      by : Holds (given a x) n ⊎ Holds (given b y) n → C
      by (inl i) = let z = given_holds a x i in f z.0 z.1
      by (inr i) = let z = given_holds b y i in g z.0 z.1

  pub left_holds : (a : Bool) (x y : ℕ) → a ≡ true → Holds x n → Holds (bit_or (given a x) y) n
  left_holds a x y e h = rw e (omega (arith, bit_or_lem x y n))

  pub right_holds : (x : ℕ) (b : Bool) (y : ℕ) → b ≡ true → Holds y n → Holds (bit_or x (given b y)) n
  right_holds x b y e h = rw e (omega (arith, bit_or_lem x y n))

-- The set of one leaf.
pub only_holds : (n : ℕ) → Holds (only n) n
only_holds n = ap (λ (x : ℕ). x / 2 ^ n % 2) (sym (one-mul (2 ^ n))) ∙ ap (λ (x : ℕ). x % 2) (shl-shr 1 n)

-- As the code makes it.
pub one_leaf : (n : ℕ) → n < 64 → 1 * 2 ^ n % 2 ^ 64 ≡ only n
one_leaf n h = rw one-mul (mod-eq_of_lt (pow-lt h))

above : (n d : ℕ) → 2 ^ (suc d + n) / 2 ^ n % 2 ≡ 0
above n d = ap (λ (x : ℕ). x / 2 ^ n % 2) (pow-add 2 (suc d) n) ∙ ap (λ (x : ℕ). x % 2) (shl-shr (2 ^ suc d) n ∙ pow-suc 2 d) ∙ mul-mod_left (2 ^ d) 2

pub holds_only : (n m : ℕ) → Holds (only m) n → n ≡ m
holds_only n m h = by (ltb n m) refl (ltb m n) refl
  where
    by : (a : Bool) → ltb n m ≡ a → (b : Bool) → ltb m n ≡ b → n ≡ m
    by true e b f = let l = ltb-true n m e in let i : m ≡ suc (m - suc n) + n = omega arith in omega (arith, ap (λ (x : ℕ). 2 ^ x / 2 ^ n % 2) i, above n (m - suc n))
    by false e true f = omega (arith, ap (λ (x : ℕ). x % 2) (div-eq_of_lt (pow-lt (ltb-true m n f))))
    by false e false f = omega (arith, ltb-false n m e, ltb-false m n f)
