-- The lowest bit of a number, which `trailing_zeros` counts up to, and the others, which `n & (n - 1)` has.
use mathlib.Core.Path.{◌≡◌, refl, ap, ap₂, ◌∙◌}
use Prim.Native.Nat.{ℕ, zero, suc, ◌-◌, ◌*◌, ◌/◌, ◌%◌, ◌^◌, ◌<◌}
use native.Mathlib.Nat.{pow-suc}
use native.Mathlib.Omega.{arith}
use lib.Bits.{bit_or, bit_and, or_step, or_zero_l, and_step, and_self}
use lib.Count.{under, count_trailing_zeros}
use Rattle.family.specs.Family.{bit_at}
use Rattle.family.proofs.Bits.{bit_up}

-- i is the lowest bit of n, a number of k bits
pub record Lowest (k n i : ℕ) : Type 0 where
  pub inside : i < k
  pub set : bit_at n i ≡ 1
  pub clear : (j : ℕ) → j < i → bit_at n j ≡ 0
  pub others : bit_or (2 ^ i) (bit_and n (n - 1)) ≡ n
  pub without : bit_at (bit_and n (n - 1)) i ≡ 0

odd_rest : (n : ℕ) → n % 2 ≡ 1 → bit_and n (n - 1) ≡ n / 2 * 2
odd_rest n odd =
    let h : (n - 1) / 2 ≡ n / 2 = omega arith in
    omega (arith, and_step n (n - 1), ap (bit_and (n / 2)) h ∙ and_self (n / 2))

odd_others : (n : ℕ) → n % 2 ≡ 1 → bit_or 1 (bit_and n (n - 1)) ≡ n
odd_others n odd =
    let q : n / 2 * 2 / 2 ≡ n / 2 = omega arith in
    rw (odd_rest n odd) (omega (arith, or_step 1 (n / 2 * 2), ap (bit_or 0) q ∙ or_zero_l (n / 2)))

module _ (n : ℕ) (even : n % 2 ≡ 0) (some : ¬ (n ≡ 0)) where
  even_rest : bit_and n (n - 1) ≡ bit_and (n / 2) (n / 2 - 1) * 2
  even_rest =
      let h : (n - 1) / 2 ≡ n / 2 - 1 = omega arith in
      omega (arith, and_step n (n - 1), ap (bit_and (n / 2)) h)

  even_half : bit_and n (n - 1) / 2 ≡ bit_and (n / 2) (n / 2 - 1)
  even_half = omega (arith, even_rest)

  even_others : (i : ℕ) → bit_or (2 ^ i) (bit_and (n / 2) (n / 2 - 1)) ≡ n / 2 → bit_or (2 ^ suc i) (bit_and n (n - 1)) ≡ n
  even_others i half =
      let p : 2 ^ suc i / 2 ≡ 2 ^ i = omega (arith, pow-suc 2 i) in
      omega (arith, or_step (2 ^ suc i) (bit_and n (n - 1)), ap₂ bit_or p even_half ∙ half, pow-suc 2 i, even_rest)

-- by the last digit
lowest_under : (d k n i : ℕ) → n % 2 ≡ d → ¬ (n ≡ 0) → (d ≡ 0 → Lowest k (n / 2) i) → Lowest (suc k) n (under d i)
lowest_under zero k n i e some rest =
    let l = rest refl in
    record { inside = omega (arith, l.inside); set = bit_up n i ∙ l.set; clear = below l; others = even_others n e some i l.others; without = bit_up (bit_and n (n - 1)) i ∙ ap (λ (m : ℕ). bit_at m i) (even_half n e some) ∙ l.without }
  where
    below : Lowest k (n / 2) i → (j : ℕ) → j < suc i → bit_at n j ≡ 0
    below l zero h = omega arith
    below l (suc j) h = bit_up n j ∙ l.clear j (omega arith)
lowest_under (suc d) k n i e some rest =
    record { inside = omega arith; set = omega arith; clear = λ j h. absurd (omega arith); others = odd_others n (omega arith); without = omega (arith, odd_rest n (omega arith)) }

pub lowest : (k n : ℕ) → n < 2 ^ k → ¬ (n ≡ 0) → Lowest k n (count_trailing_zeros k n)
unfolding count_trailing_zeros
lowest zero n l some = absurd (some (omega arith))
lowest (suc k) n l some =
    lowest_under (n % 2) k n (count_trailing_zeros k (n / 2)) refl some (λ e. lowest k (n / 2) (omega (arith, pow-suc 2 k)) (λ z. some (omega arith)))
