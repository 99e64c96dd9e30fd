-- The rows have each cell of three levels at its place: one test computes it at all 1,125 places, and one law carries it to each cell (`cell_in_rows`).
use mathlib.Core.Path.{◌≡◌, refl, ◌∙◌, fun_ext}
use mathlib.Core.Bool.{Bool, true, false, cond}
use Prim.Native.Nat.{ℕ, ◌+◌, ◌-◌, ◌*◌, ◌/◌, ◌%◌, ◌≤◌, ◌<◌}
use native.Mathlib.Nat.{zero-div}
use native.Mathlib.Omega.{arith}
use lib.Dec.{T, ltb, eqb, eqb→eq}
use lib.ListN.{get_or}
use borrow.Author.Tests.{ltb-false}
use Rattle.process.specs.Forms.{form_of}
use Rattle.outcomes.specs.LevelCells.{cell_at}
use Rattle.outcomes.specs.ThreeLevels.{settled_cell, cell3}
use Rattle.outcomes.specs.Rows.{rows, row_in, digit_of, code_of_digit, cell_in3}
use Rattle.outcomes.proofs.Table.{below, at_number}

abbrev right : ℕ → ℕ → Bool
right k r = eqb (code_of_digit (digit_of (get_or rows k 0) r)) (cell3 (k / 15 + 3) (k % 15) r)

tested : T (below 75 (λ k. below 15 (λ r. right k r)))
unfolding rows cell3 cell_at
tested = tt

at_place : (form l r : ℕ) → 3 ≤ form → form ≤ 7 → l < 15 → r < 15 → code_of_digit (digit_of (get_or rows ((form - 3) * 15 + l) 0) r) ≡ cell3 form l r
at_place form l r a b hl hr =
    let k : ℕ = (form - 3) * 15 + l in
    let e₁ : k / 15 + 3 ≡ form = omega arith in
    let e₂ : k % 15 ≡ l = omega arith in
    eqb→eq _ _ (at_number 15 (λ r. right k r) (at_number 75 (λ k. below 15 (λ r. right k r)) tested k (omega arith)) r hr) ∙ rw (e₁, e₂)

-- an empty row stands for nothing
abbrev cells_of : ℕ → ℕ → ℕ
cells_of row r = code_of_digit (digit_of row r)

empty_row : (r : ℕ) → cells_of 0 r ≡ 15
empty_row r = simp (zero-div)

-- outside of the table, by any of the four guards, both are 15
guarded : (b c d e : Bool) (row x r : ℕ) → (b ≡ false → c ≡ false → d ≡ false → e ≡ false → cells_of row r ≡ x)
    → cond e 15 (cells_of (cond b 0 (cond c 0 (cond d 0 row))) r) ≡ cond b 15 (cond c 15 (cond d 15 (cond e 15 x)))
guarded true c d true row x r h = refl
guarded true c d false row x r h = empty_row r
guarded false true d true row x r h = refl
guarded false true d false row x r h = empty_row r
guarded false false true true row x r h = refl
guarded false false true false row x r h = empty_row r
guarded false false false true row x r h = refl
guarded false false false false row x r h = h refl refl refl refl

-- what the rows give is the cell, inside and outside of them
pub cell_in_rows : (form : ℕ) → cell_in3 rows form ≡ cell3 form
unfolding cell_in3 row_in cell3
cell_in_rows form = fun_ext (λ l. fun_ext (λ r.
    guarded (ltb form 3) (ltb 7 form) (ltb 14 l) (ltb 14 r) (get_or rows ((form - 3) * 15 + l) 0) (settled_cell (form_of form) l r) r
    (λ e₁ e₂ e₃ e₄. at_place form l r (ltb-false _ _ e₁) (ltb-false _ _ e₂) (omega (arith, ltb-false 14 l e₃)) (omega (arith, ltb-false 14 r e₄)) ∙ simp (e₁, e₂, e₃, e₄))))
