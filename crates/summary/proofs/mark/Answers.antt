-- `summary::mark` meets its contract: the digits passed are marked (`Marking`).
use mathlib.Core.Path.{refl}
use Prim.Native.Nat.{◌%◌}
use Rattle.summary.proofs.Marking.{marking_more, marking_skip}
use native.Mathlib.Omega.{arith}
use Rattle.summary.proofs.mark.Goals as goal

pub loop-rest-preserved : goal.loop-rest-preserved
loop-rest-preserved c =
    let l = c.loop-rest in
    let a = c.args in
    elim c.if-on-eq1.branch [
      | goal.then-on-eq1 w ↦ rw w.marks-is (marking_more a.marks.now a.row a.rights a.left l.marks l.rest l.on l.invariant (omega arith) (l.rest % 16) refl)
      | goal.else-on-eq1 w ↦ rw w.marks-is (marking_skip a.marks.now a.row a.rights a.left l.marks l.rest l.on l.invariant w.if-on-eq1.false)
    ]
