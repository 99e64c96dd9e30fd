-- `reply::put_items` meets its contract. The invariant: what is left of the bytes, put into the text so far, gives what all of them give.
use mathlib.Core.Path.{◌≡◌, sym, ◌∙◌}
use Prim.Native.Nat.{◌-◌, min}
use native.Mathlib.Omega.{arith}
use Rattle.text.proofs.Ends.{each_step, each_end}
use Rattle.reply.specs.Line.{item_at}
use Rattle.reply.proofs.put_items.Goals as goal

pub loop-i-preserved : goal.loop-i-preserved
loop-i-preserved c =
    let at = c.loop-i in
    let a = c.args in
    at.invariant ∙ (each_step at.t (item_at a.bytes.now) (min a.n 127) at.i (omega arith) ∙ rw c.put_item.ensures)

pub returns : goal.returns
returns c =
    let at = c.loop-i in
    let a = c.args in
    let e : min a.n 127 - 0 ≡ min a.n 127 = omega arith in
    sym (rw e at (at.invariant ∙ each_end at.t (item_at a.bytes.now) (min a.n 127) at.i (omega arith)))
