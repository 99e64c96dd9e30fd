-- `product::picked` meets its contract: the words at the bits passed are joined.
use Rattle.product.proofs.Tables.{picked_more, picked_skip}
use native.Mathlib.Omega.{arith}
use Rattle.product.proofs.picked.Goals as goal

pub loop-x-preserved : goal.loop-x-preserved
loop-x-preserved c =
    let l = c.loop-x in
    let a = c.args in
    elim c.if-u-x-eq1.branch [
      | goal.then-u-x-eq1 w ↦ rw w.r-is (picked_more a.u a.s.now l.x l.r l.invariant (omega arith) w.if-u-x-eq1.true)
      | goal.else-u-x-eq1 w ↦ rw w.r-is (picked_skip a.u a.s.now l.x l.r l.invariant w.if-u-x-eq1.false)
    ]
