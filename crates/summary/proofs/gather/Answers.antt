-- `summary::gather` meets its contract: the right codes passed are gathered (`Gathering`).
use Rattle.outcomes.specs.Rows.{row_cell}
use Rattle.summary.proofs.Rows.{digit_cell, cell_digit}
use Rattle.summary.proofs.Unions.{gathering_more, gathering_skip}
use native.Mathlib.Omega.{arith}
use Rattle.summary.proofs.gather.Goals as goal

pub loop-right-preserved : goal.loop-right-preserved
loop-right-preserved c =
    let l = c.loop-right in
    let a = c.args in
    let row = row_cell a.row in
    elim c.if-row-right.branch [
      | goal.then-row-right w ↦ rw w.g-is (gathering_more row a.code a.b l.right l.g l.invariant w.add.new.to (digit_cell a.row l.right a.code (omega arith) (omega (arith, c.from-digit.ensures, w.if-row-right.true))) (rw w.family_of.ensures at w.add.ensures))
      | goal.else-row-right w ↦ rw w.g-is (gathering_skip row a.code a.b l.right l.g l.invariant (λ q. w.if-row-right.false (omega (arith, c.from-digit.ensures, cell_digit a.row l.right a.code q (omega arith)))))
    ]
