-- The lines that more than one program writes, as bytes.
use Rattle.std.specs.Prelude.{List, [], ◌∷◌, ◌++◌, ℕ, zero, suc, ◌+◌}
use Rattle.text.specs.Decimal.{decimal}
use Rattle.text.specs.Text.{ascii}

-- A text and a newline (10).
abbrev pub line : List ℕ → List ℕ
line text = text ++ (10 ∷ [])

-- A word, a blank (32) and a number, on a line.
abbrev pub numbered : List ℕ → ℕ → List ℕ
numbered word n = word ++ (32 ∷ line (decimal n))

abbrev pub refused : List ℕ
refused = ascii "refused"

-- What f gives for k numbers, from i on, one after the other.
unfoldable pub each : (ℕ → List ℕ) → ℕ → ℕ → List ℕ
each f i zero = []
each f i (suc k) = f i ++ each f (i + 1) k
