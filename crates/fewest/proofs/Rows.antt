-- A row of the table digit by digit: what is left of it after so many, and that where nothing is left no sum is to be added.
use mathlib.Core.Path.{◌≡◌, refl, ap}
use mathlib.Core.Bool.{Bool, true, false, cond}
use Prim.Native.Nat.{ℕ, zero, suc, ◌+◌, ◌-◌, ◌*◌, ◌/◌, ◌%◌, ◌^◌, ◌≤◌, ◌<◌}
use native.Mathlib.Nat.{zero-div}
use native.Mathlib.Numerals.{add-one}
use native.Mathlib.Omega.{arith}
use borrow.Author.Tests.{le-ltb}
use lib.Dec.{ltb}
use lib.Pow.{shr-shr}
use Rattle.outcomes.specs.Rows.{rows, code_of_digit, row_cell, row_in, cell_in3}
use Rattle.outcomes.specs.ThreeLevels.{cell3}
use Rattle.outcomes.proofs.InRows.{cell_in_rows}
use Rattle.fewest.specs.Costs.{unreached, cost_of, with_sum, row_costs, node_costs}
use Rattle.fewest.specs.declared.Costs.{Costs}

-- the next digit, and the rest after it
pub next_cell : (row r rest : ℕ) → r < 15 → rest ≡ row / 2 ^ (4 * r) → code_of_digit (rest % 16) ≡ row_cell row r
next_cell row r rest h e = rw (le-ltb 14 r (omega arith), e)

pub next_rest : (row r : ℕ) → row / 2 ^ (4 * r) / 16 ≡ row / 2 ^ (4 * (r + 1))
next_rest row r = let e : 4 * (r + 1) ≡ 4 * r + 4 = omega arith in rw e (shr-shr row (4 * r) 4)

-- where nothing is left there is no digit more
none_left : (row r n : ℕ) → r ≤ n → row / 2 ^ (4 * r) ≡ 0 → row / 2 ^ (4 * n) ≡ 0
none_left row r n h e =
    let i : 4 * n ≡ 4 * r + 4 * (n - r) = omega arith in
    rw (i, ← shr-shr row (4 * r) (4 * (n - r)), e) (simp zero-div)

either_way : (b : Bool) → ◌≡◌ {A = ℕ} (cond b 15 15) 15
either_way true = refl
either_way false = refl

no_cell : (row r : ℕ) → row / 2 ^ (4 * r) ≡ 0 → row_cell row r ≡ 15
no_cell row r e = rw e (either_way (ltb 14 r))

-- and so no sum
module _ (row k : ℕ) (y z : Costs) (r : ℕ) (e : row / 2 ^ (4 * r) ≡ 0) where
  passed : (gap n : ℕ) → gap + r ≡ n → row_costs (row_cell row) k y n z ≡ row_costs (row_cell row) k y r z
  unfolding row_costs with_sum
  passed zero n h = let i : n ≡ r = omega arith in rw i
  passed (suc gap) zero h = absurd (omega arith)
  passed (suc gap) (suc n) h = rw (no_cell row n (none_left row r n (omega arith) e)) (passed gap n (omega arith))

  pub row_over : (n : ℕ) → r ≤ n → row_costs (row_cell row) k y n z ≡ row_costs (row_cell row) k y r z
  row_over n h = passed (n - r) n (omega arith)

-- one left code more of a composite, by its row
pub node_more : (form l row : ℕ) (x y z : Costs) → row ≡ row_in rows form l → z ≡ node_costs (cell3 form) x y l
    → cond (ltb (cost_of x l) unreached) (row_costs (row_cell row) (cost_of x l) y 15 z) z ≡ node_costs (cell3 form) x y (l + 1)
unfolding node_costs cell_in3
node_more form l row x y z e f =
    let cells : row_cell (row_in rows form l) ≡ cell3 form l = ap (λ (g : ℕ → ℕ → ℕ). g l) (cell_in_rows form) in
    rw (add-one l, e, f, cells)
