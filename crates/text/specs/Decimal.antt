-- Numbers in decimal.
use Rattle.std.specs.Prelude.{cond, List, [], ◌∷◌, ◌++◌, ◌≡◌, ℕ, zero, suc, ◌+◌, ◌*◌, ◌/◌, ◌%◌, ◌^◌, ◌<◌, ltb}

-- A number in decimal: a digit d is the byte 48 + d, and there is no zero before another digit.
pub data Decimal : ℕ → List ℕ → Type 0 where
  digit : {n : ℕ} {text : List ℕ} → n < 10 → text ≡ (48 + n) ∷ [] → Decimal n text
  more : {n : ℕ} {text : List ℕ} (m d : ℕ) (before : List ℕ) → 0 < m → d < 10 → Decimal m before
      → n ≡ 10 * m + d → text ≡ before ++ ((48 + d) ∷ []) → Decimal n text

-- The last digit, and before it those of the tenth part: at most k digits in all.
unfoldable pub digits : ℕ → ℕ → List ℕ
digits zero n = []
digits (suc k) n = cond (ltb n 10) ((48 + n) ∷ []) (digits k (n / 10) ++ ((48 + n % 10) ∷ []))

-- The digits of a number that has at most 20 of them, as every number of 64 bits has.
abbrev pub decimal : ℕ → List ℕ
decimal n = digits 20 n

-- These digits are the number's text. The proof is `spells`.
pub record Spells : Type 0 where
  pub right : (n : ℕ) → n < 10 ^ 20 → Decimal n (decimal n)
