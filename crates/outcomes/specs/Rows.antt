-- The table of three levels row by row, as the code has it: for a form 3 to 7 and a left code 0 to 14 one number, whose hexadecimal digit r, counted from the right, is one
-- more than the code of the cell with the right code r, and 0 where that cannot occur or is not settled. So a row is over where the rest of it is 0.
use Rattle.std.specs.Prelude.{cond, List, ℕ, zero, suc, ◌+◌, ◌-◌, ◌*◌, ◌/◌, ◌%◌, ◌^◌, eqb, ltb, get_or}
use Rattle.outcomes.specs.Table.{listed}
use Rattle.outcomes.specs.ThreeLevels.{cell3}

-- The number of n hexadecimal digits, the first of them on the right.
abbrev pub digits : ℕ → (ℕ → ℕ) → ℕ
digits zero d = 0
digits (suc n) d = d 0 + 16 * digits n (λ k. d (suc k))

-- The 75 rows: at place (form - 3) * 15 + left that of the form and the left code. One more than 15, which is no code, is 0 as a digit.
unfoldable pub rows : List ℕ
rows = listed 75 (λ k. digits 15 (λ r. suc (cell3 (k / 15 + 3) (k % 15) r) % 16))

-- The row of a form number and a left code in a table; outside the forms 3 to 7 and the codes 0 to 14 it is empty.
unfoldable pub row_in : List ℕ → ℕ → ℕ → ℕ
row_in table form l = cond (ltb form 3) 0 (cond (ltb 7 form) 0 (cond (ltb 14 l) 0 (get_or table ((form - 3) * 15 + l) 0)))

-- The digit r of a row; and the code that a digit stands for, 15 where it stands for none.
abbrev pub digit_of : ℕ → ℕ → ℕ
digit_of row r = row / 2 ^ (4 * r) % 16

abbrev pub code_of_digit : ℕ → ℕ
code_of_digit d = cond (eqb d 0) 15 (d - 1)

-- The cells of a row, by the right code.
abbrev pub row_cell : ℕ → ℕ → ℕ
row_cell row r = cond (ltb 14 r) 15 (code_of_digit (digit_of row r))

-- What a table gives a form number, a left code and a right code.
unfoldable pub cell_in3 : List ℕ → ℕ → ℕ → ℕ → ℕ
cell_in3 table form l r = row_cell (row_in table form l) r
