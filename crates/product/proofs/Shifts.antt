-- The bits of a word shifted up by s places: bit i goes to i + s, and the bits below s are 0.
use mathlib.Core.Path.{◌≡◌, sym, ap, ◌∙◌}
use Prim.Native.Nat.{ℕ, suc, ◌+◌, ◌-◌, ◌*◌, ◌/◌, ◌%◌, ◌^◌, ◌<◌}
use native.Mathlib.Nat.{mul_assoc, mul-mod_left}
use native.Mathlib.Omega.{arith}
use lib.Pow.{pow-add, shl-shr, shr-shr, field, mod-mod-pow}
use Rattle.family.specs.Family.{bit_at}

-- what is cut off a word does not touch its bits
bit_cut : (n j : ℕ) → j < 64 → bit_at (n % 2 ^ 64) j ≡ bit_at n j
bit_cut n j l =
    let e : 64 ≡ (64 - j) + j = omega arith in
    let d : 64 - j ≡ (63 - j) + 1 = omega arith in
    ap (λ (m : ℕ). n % 2 ^ m / 2 ^ j % 2) e
    ∙ ap (λ (m : ℕ). m % 2) (field n (64 - j) j)
    ∙ ap (λ (m : ℕ). n / 2 ^ j % 2 ^ m % 2) d
    ∙ mod-mod-pow (n / 2 ^ j) (63 - j) 1

pub shifted_in : (w s i : ℕ) → i + s < 64 → bit_at (w * 2 ^ s % 2 ^ 64) (i + s) ≡ bit_at w i
shifted_in w s i l =
    let e : i + s ≡ s + i = omega arith in
    bit_cut (w * 2 ^ s) (i + s) l
    ∙ ap (λ (m : ℕ). w * 2 ^ s / 2 ^ m % 2) e
    ∙ ap (λ (m : ℕ). m % 2) (sym (shr-shr (w * 2 ^ s) s i) ∙ ap (λ (m : ℕ). m / 2 ^ i) (shl-shr w s))

-- w * 2 ^ s is an even multiple of 2 ^ j
even_multiple : (w d j : ℕ) → w * 2 ^ (d + 1 + j) ≡ w * 2 ^ d * 2 * 2 ^ j
even_multiple w d j =
    ap (λ (m : ℕ). w * m) (pow-add 2 (d + 1) j ∙ ap (λ (m : ℕ). m * 2 ^ j) (pow-add 2 d 1))
    ∙ sym (mul_assoc w (2 ^ d * 2) (2 ^ j))
    ∙ ap (λ (m : ℕ). m * 2 ^ j) (sym (mul_assoc w (2 ^ d) 2))

pub shifted_clear : (w s j : ℕ) → j < s → j < 64 → bit_at (w * 2 ^ s % 2 ^ 64) j ≡ 0
shifted_clear w s j l small =
    let e : s ≡ (s - suc j) + 1 + j = omega arith in
    bit_cut (w * 2 ^ s) j small
    ∙ ap (λ (m : ℕ). bit_at m j) (ap (λ (m : ℕ). w * 2 ^ m) e ∙ even_multiple w (s - suc j) j)
    ∙ ap (λ (m : ℕ). m % 2) (shl-shr (w * 2 ^ (s - suc j) * 2) j)
    ∙ mul-mod_left (w * 2 ^ (s - suc j)) 2
