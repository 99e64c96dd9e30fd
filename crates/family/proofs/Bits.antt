-- The bits of a number: of a union, of a common part and of a complement, and of a power of two; and that union is associative.
-- What the library has is here by the names that the crates above use.
use mathlib.Core.Path.{◌≡◌, sym, ap, ◌∙◌}
use mathlib.Core.Logic.{◌⊎◌, inl, inr}
use Prim.Native.Nat.{ℕ, zero, suc, ◌-◌, ◌*◌, ◌/◌, ◌%◌, ◌^◌, ◌<◌, max, min}
use native.Mathlib.Nat.{pow-suc}
use native.Mathlib.Omega.{arith}
use lib.Pow.{pow_pos}
use lib.Bits.{bit_or, bit_and}
use Rattle.std.proofs.lemmas.Bool.{cases_eq, cases_lt}
use Rattle.std.proofs.lemmas.Nat.{one_shl}
use Rattle.std.proofs.lemmas.Nat.Bits.{bit_at-lt, bit_at-zero, bit_at-suc, bit_at_or, bit_at_and, bit_at-pow_same, bit_at-pow_other, same_from_bits, same_from_bits_below}
use Rattle.family.specs.Family.{bit_at}

pub bit_small : (n i : ℕ) → bit_at n i < 2
bit_small = bit_at-lt

pub no_bit : (i : ℕ) → bit_at 0 i ≡ 0
no_bit = bit_at-zero

pub bit_or_lem : (a b i : ℕ) → bit_at (bit_or a b) i ≡ max (bit_at a i) (bit_at b i)
bit_or_lem = bit_at_or

pub bit_and_lem : (a b i : ℕ) → bit_at (bit_and a b) i ≡ min (bit_at a i) (bit_at b i)
bit_and_lem = bit_at_and

-- the bits of a union
module _ (a b i : ℕ) where
  pub or_left : bit_at a i ≡ 1 → bit_at (bit_or a b) i ≡ 1
  or_left e = omega (arith, bit_or_lem a b i, bit_small b i)

  pub or_right : bit_at b i ≡ 1 → bit_at (bit_or a b) i ≡ 1
  or_right e = omega (arith, bit_or_lem a b i, bit_small a i)

  pub or_back : bit_at (bit_or a b) i ≡ 1 → (bit_at a i ≡ 1) ⊎ (bit_at b i ≡ 1)
  or_back e = elim (cases_lt (bit_at a i) 1) [
    | inl l ↦ inr (omega (arith, bit_or_lem a b i))
    | inr l ↦ inl (omega (arith, bit_small a i))
  ]

-- union is associative, bit by bit
pub or_assoc : (a b c : ℕ) → bit_or (bit_or a b) c ≡ bit_or a (bit_or b c)
or_assoc a b c = same_from_bits _ _ (λ i. omega (arith, bit_at_or (bit_or a b) c i, bit_at_or a b i, bit_at_or a (bit_or b c) i, bit_at_or b c i))

-- bit i + 1 is bit i of the half
pub bit_up : (n i : ℕ) → bit_at n (suc i) ≡ bit_at (n / 2) i
bit_up = bit_at-suc

-- the bits of a complement
pub bit_not : (k n i : ℕ) → n < 2 ^ k → i < k → bit_at (2 ^ k - 1 - n) i ≡ 1 - bit_at n i
bit_not zero n i l h = absurd (omega arith)
bit_not (suc k) n zero l h = omega (arith, pow-suc 2 k, pow_pos k)
bit_not (suc k) n (suc i) l h =
    let half : (2 ^ suc k - 1 - n) / 2 ≡ 2 ^ k - 1 - n / 2 = omega (arith, pow-suc 2 k, pow_pos k) in
    bit_up (2 ^ suc k - 1 - n) i ∙ ap (λ (m : ℕ). bit_at m i) half ∙ bit_not k (n / 2) i (omega (arith, pow-suc 2 k)) (omega arith) ∙ ap (λ (b : ℕ). 1 - b) (sym (bit_up n i))

-- a power of two has the one bit
pub own_bit : (i : ℕ) → bit_at (2 ^ i) i ≡ 1
own_bit = bit_at-pow_same

pub only_own_bit : (i j : ℕ) → bit_at (2 ^ j) i ≡ 1 → i ≡ j
only_own_bit i j on = elim (cases_eq i j) [ inl e ↦ e | inr d ↦ absurd (omega (arith, bit_at-pow_other j i d)) ]

-- `1 << k` in the code
pub one_shifted : (k : ℕ) → k < 64 → 1 * 2 ^ k % 2 ^ 64 ≡ 2 ^ k
one_shifted k = one_shl k 64

-- a number none of whose first k bits is set is 0 where it is below 2 ^ k
pub all_clear : (k n : ℕ) → n < 2 ^ k → ((i : ℕ) → i < k → bit_at n i ≡ 0) → n ≡ 0
all_clear k n l clear = same_from_bits_below k n 0 l (pow_pos k) (λ i h. clear i h ∙ sym (bit_at-zero i))
