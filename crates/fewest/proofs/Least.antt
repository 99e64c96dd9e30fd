-- Least numbers below a bound: there is one at most; the least of the same members said otherwise, of none, of one, of either, of a sum. Each by arithmetic
-- from what a least number is.
use mathlib.Core.Path.{◌≡◌, refl, sym}
use mathlib.Core.Bool.{Bool, true, false, true≢false}
use mathlib.Core.Logic.{◌⊎◌, inl, inr, ⊎_elim}
use Prim.Native.Nat.{ℕ, suc, ◌+◌, ◌≤◌, ◌<◌, min}
use native.Mathlib.Nat.{eq-or-lt_of_le}
use native.Mathlib.Decide.{dec_le}
use native.Mathlib.Omega.{arith}
use Rattle.fewest.specs.Costs.{unreached, given}
use Rattle.fewest.specs.Least.{LeastBelow, OnlyLeast}

-- one at most
no_less : {bound : ℕ} {F : ℕ → Type 0} (x y : ℕ) → LeastBelow bound F x → LeastBelow bound F y → y ≤ x
no_less x y h g = elim (dec_le y x) [ yes l ↦ l | no n ↦ (let a : y ≤ x = g.least x (h.reached (omega (arith, g.low))) in a) ]

pub only_least : OnlyLeast
only_least bound F x y h g = omega (arith, no_less x y h g, no_less y x g h)

module _ {bound : ℕ} where
  -- the same members
  pub least_as : {F G : ℕ → Type 0} {x : ℕ} → LeastBelow bound F x → ((k : ℕ) → F k → G k) → ((k : ℕ) → G k → F k) → LeastBelow bound G x
  least_as {x = x} h f g = record { low = h.low; reached = λ l. f x (h.reached l); least = λ j a. h.least j (g j a) }

  pub least_none : {F : ℕ → Type 0} → ((k : ℕ) → ¬ F k) → LeastBelow bound F bound
  least_none n = record { low = omega arith; reached = λ l. absurd (omega arith); least = λ j a. absurd (n j a) }

  -- members that are not below the bound change nothing
  pub least_past : {F G : ℕ → Type 0} {x : ℕ} → LeastBelow bound F x → ((k : ℕ) → G k → bound ≤ k) → LeastBelow bound (λ k. G k ⊎ F k) x
  least_past h f = record { low = h.low; reached = λ l. inr (h.reached l); least = λ j a. ⊎_elim (λ u. omega (arith, f j u, h.low)) (λ v. h.least j v) a }

  -- of either
  pub least_either : {F G : ℕ → Type 0} (x y : ℕ) → (x < bound → F x) → ((j : ℕ) → F j → x ≤ j) → LeastBelow bound G y → LeastBelow bound (λ k. F k ⊎ G k) (min x y)
  least_either {F} {G} x y f m h = record {
    low = omega (arith, h.low);
    reached = λ l. elim (dec_le x y) [
      | yes a ↦ (let e : min x y ≡ x = omega arith in rw e (inl (f (omega arith))))
      | no a ↦ (let e : min x y ≡ y = omega arith in rw e (inr (h.reached (omega arith))))
    ];
    least = λ j a. ⊎_elim (λ u. omega (arith, m j u)) (λ v. omega (arith, h.least j v)) a;
  }

-- one number, where a test holds
pub least_if : {F : ℕ → Type 0} (b : Bool) (m : ℕ) → m < unreached → (b ≡ true → F m) → ((j : ℕ) → F j → (b ≡ true) × (j ≡ m)) → LeastBelow unreached F (given b m)
least_if true m l f g = record { low = omega arith; reached = λ h. f refl; least = λ j a. omega (arith, (g j a).1) }
least_if false m l f g = least_none (λ k a. true≢false (sym (g k a).0))

-- a member of the one and a member of the other, added
pub record Sum (F G : ℕ → Type 0) (m : ℕ) : Type 0 where
  pub first : ℕ
  pub second : ℕ
  pub has_first : F first
  pub has_second : G second
  pub adds : first + second ≡ m

-- one of the members below n
pub record Below (n : ℕ) (F : ℕ → ℕ → Type 0) (m : ℕ) : Type 0 where
  pub at : ℕ
  pub low : at < n
  pub member : F at m

-- one more of them
pub below_more : {F : ℕ → ℕ → Type 0} {n m : ℕ} → F n m ⊎ Below n F m → Below (suc n) F m
below_more {n = n} (inl a) = record { at = n; low = omega arith; member = a }
below_more (inr b) = record { at = b.at; low = omega (arith, b.low); member = b.member }

pub below_less : {F : ℕ → ℕ → Type 0} {n m : ℕ} → Below (suc n) F m → F n m ⊎ Below n F m
below_less {F} {n} {m} b =
    elim (eq-or-lt_of_le {n = b.at} {m = n} (omega (arith, b.low))) [
      | inl e ↦ (let a : F n m = rw e at b.member in inl a)
      | inr l ↦ inr (record { at = b.at; low = l; member = b.member })
    ]

-- below a lower bound
pub least_lower : {bound lower : ℕ} {F : ℕ → Type 0} {x : ℕ} → lower ≤ bound → LeastBelow bound F x → LeastBelow lower F (min lower x)
least_lower {bound} {lower} {F} {x} h l = record { low = omega arith; reached = λ m. let e : x ≡ min lower x = omega arith in rw e at (l.reached (omega arith)); least = λ j a. omega (arith, l.least j a) }
