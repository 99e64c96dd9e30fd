-- The chart as a list: document 01's "245 numbers, for forms 3 to 7, left code 0 to 6, right code 0 to 6, the right changing fastest".
use Rattle.std.specs.Prelude.{List, [], ◌∷◌, ℕ, zero, suc, ◌+◌, ◌/◌, ◌%◌}
use Rattle.outcomes.specs.Cells.{cell}

-- What f gives 0, 1, and so on, n numbers in all.
abbrev pub listed : ℕ → (ℕ → ℕ) → List ℕ
listed zero f = []
listed (suc n) f = f 0 ∷ listed n (λ k. f (suc k))

-- The 245 cells: at place (form - 3) * 49 + left * 7 + right that of the form, the left code and the right code.
unfoldable pub chart : List ℕ
chart = listed 245 (λ k. cell (k / 49 + 3) (k / 7 % 7) (k % 7))
