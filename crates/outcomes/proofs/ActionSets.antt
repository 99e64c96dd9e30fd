-- Numbers with bitwise or are sets in the chart's sense. The library has all but that or is associative, which is shown bit by bit.
use mathlib.Core.Path.{◌≡◌, refl, sym, ◌∙◌, ap₂}
use Prim.Native.Nat.{ℕ, ◌+◌, ◌*◌, ◌/◌, ◌%◌, max}
use native.Mathlib.Omega.{arith}
use lib.Arith.{bin_ind}
use lib.Bits.{bit_or, or_step, or_shr, or_zero_l, or_comm}
use Rattle.outcomes.specs.Sets.{Lawful, numbers}

or_half : (a b : ℕ) → bit_or a b / 2 ≡ bit_or (a / 2) (b / 2)
or_half a b = or_shr a b 1

or_last : (a b : ℕ) → bit_or a b % 2 ≡ max (a % 2) (b % 2)
or_last a b = omega (arith, or_step a b)

last_assoc : (a b c : ℕ) → max (bit_or a b % 2) (c % 2) ≡ max (a % 2) (bit_or b c % 2)
last_assoc a b c = omega (arith, or_last a b, or_last b c)

pub or_assoc : (a b c : ℕ) → bit_or (bit_or a b) c ≡ bit_or a (bit_or b c)
or_assoc =
    bin_ind (λ (a : ℕ). (b c : ℕ) → bit_or (bit_or a b) c ≡ bit_or a (bit_or b c)) (λ b c. refl)
    (λ a halves b c. or_step (bit_or a b) c
    ∙ ap₂ (λ (x y : ℕ). x * 2 + y) (rw (or_half a b, or_half b c) (halves (b / 2) (c / 2))) (last_assoc a b c)
    ∙ sym (or_step a (bit_or b c)))

pub numbers_lawful : (single : ℕ → ℕ) → Lawful (numbers single)
numbers_lawful single = record { empty_union = or_zero_l; union_comm = or_comm; union_assoc = or_assoc }
