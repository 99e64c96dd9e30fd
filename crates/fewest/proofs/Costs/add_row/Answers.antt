-- `Costs::add_row` meets its contract: the costs so far are those of the cells passed, and where nothing is left of the row those of all.
use mathlib.Core.Path.{◌≡◌, refl, sym, ◌∙◌}
use Prim.Native.Nat.{◌*◌, ◌/◌, ◌^◌}
use native.Mathlib.Numerals.{add-one}
use borrow.Author.Tests.{lt-ltb}
use Rattle.fewest.specs.Costs.{row_costs}
use Rattle.fewest.proofs.Rows.{next_cell, next_rest, row_over}
use native.Mathlib.Omega.{arith}
use Rattle.fewest.proofs.Costs.add_row.Goals as goal

pub loop-r-init : goal.loop-r-init
unfolding row_costs
loop-r-init c = (omega arith, refl)

pub loop-r-preserved : goal.loop-r-preserved
unfolding row_costs
loop-r-preserved c =
    let row = c.args.row in
    let r = c.loop-r.r in
    (rw c.loop-r.invariant.0 (next_rest row r), rw (add-one r, c.add_sum.ensures, next_cell row r c.loop-r.rest (omega arith) c.loop-r.invariant.0, c.loop-r.invariant.1))

pub returns-then-rest-eq0 : goal.returns-then-rest-eq0
returns-then-rest-eq0 c =
    let a = c.args in
    let r = c.loop-r.r in
    let none : a.row / 2 ^ (4 * r) ≡ 0 = sym c.loop-r.invariant.0 ∙ c.if-rest-eq0.true in
    rw (lt-ltb _ _ c.if-k-ge-NONE.false, row_over a.row a.k a.right.now a.self.now r none 15 (omega arith)) c.loop-r.invariant.1
