-- The cells of a row: a digit is one more than the code that it stands for.
use mathlib.Core.Path.{◌≡◌, refl, ap, ◌∙◌, subst}
use mathlib.Core.Bool.{Bool, true, false, cond}
use mathlib.Core.List.{List}
use Prim.Native.Nat.{ℕ, ◌+◌, ◌-◌, ◌≤◌, ◌<◌}
use native.Mathlib.Omega.{arith}
use lib.Dec.{eqb, ltb}
use borrow.Author.Tests.{eqb-false, ne_eqb, le-ltb}
use Rattle.outcomes.specs.Rows.{row_in, digit_of, code_of_digit, row_cell, cell_in3}
use Rattle.summary.specs.declared.Summary.{Summary}
use Rattle.summary.specs.Gathered.{Gathered}

-- the table's cells of a left code are those of its row
pub cells_of_row : (table : List ℕ) (form left : ℕ) → row_cell (row_in table form left) ≡ cell_in3 table form left
unfolding cell_in3
cells_of_row table form left = refl

pub gathered_by_row : (table : List ℕ) (form left row code : ℕ) (b : Summary) (g : List ℕ) → row ≡ row_in table form left → Gathered (row_cell row) code b g → Gathered (cell_in3 table form left) code b g
gathered_by_row table form left row code b g e = subst (λ cells. Gathered cells code b g) (ap row_cell e ∙ cells_of_row table form left)

pub digit_cell : (row r code : ℕ) → r < 15 → digit_of row r ≡ code + 1 → row_cell row r ≡ code
digit_cell row r code l e =
    let some : ¬ (digit_of row r ≡ 0) = λ z. omega arith in
    let low : r ≤ 14 = omega arith in
    let is : row_cell row r ≡ digit_of row r - 1 = simp (le-ltb 14 r low, ne_eqb (digit_of row r) 0 some) in
    omega (arith, is)

code_digit : (b : Bool) (d code : ℕ) → eqb d 0 ≡ b → cond b 15 (d - 1) ≡ code → code < 15 → d ≡ code + 1
code_digit true d code z e l = absurd (omega arith)
code_digit false d code z e l = omega (arith, eqb-false d 0 z)

cell_code : (b : Bool) (d code : ℕ) → cond b 15 (code_of_digit d) ≡ code → code < 15 → d ≡ code + 1
cell_code true d code e l = absurd (omega arith)
cell_code false d code e l = code_digit (eqb d 0) d code refl e l

pub cell_digit : (row r code : ℕ) → row_cell row r ≡ code → code < 15 → digit_of row r ≡ code + 1
cell_digit row r code = cell_code (ltb 14 r) (digit_of row r) code
