-- `plainest::show` meets its contract: the entries so far are written, and the table is the one after them.
use mathlib.Core.Path.{◌≡◌, sym, ◌∙◌}
use Prim.Native.Nat.{◌-◌}
use native.Mathlib.Omega.{arith}
use lib.ListN.{length-set}
use Rattle.plan.proofs.Runnable.{runnable_of}
use Rattle.plainest.specs.Shown.{entries_after, plainest_bytes}
use Rattle.plainest.proofs.Written.{next_proper, written_all, none_more, written_more}
use Rattle.plainest.proofs.show.Goals as goal

-- no entry is left
pub returns-in_default : goal.returns-in_default
unfolding plainest_bytes
returns-in_default c =
    let p = c.args.process.now in
    let s = c.new-sought.ensures in
    let k = c.new-sought.result.fewest in
    let e = sym (rw (s.types, s.nodes, s.set, c.told_by-next.ensures) at c.entry.ensures) ∙ c.in_default.is in
    let w = c.loop-i.invariant.1 in
    let none = none_more p.types.now p.nodes.now c.args.set k c.loop-i.i c.loop-i.table c.loop-i.run w (omega arith) e in
    rw (← s.fewest) (written_all p.types.now p.nodes.now c.args.set k c.loop-i.i c.loop-i.table c.loop-i.run w none)

pub bounds-table-from : goal.bounds-table-from
bounds-table-from c =
    let p = c.args.process.now in
    let s = c.new-sought.ensures in
    let e = sym (rw (s.types, s.nodes, s.set, c.told_by-next.ensures) at c.entry.ensures) ∙ c.in-Some.is in
    let low = (next_proper p.types.now p.nodes.now c.args.set c.new-sought.result.fewest c.loop-i.table c.in-Some.e e).low in
    omega (arith, c.from.ensures, low, (runnable_of p.runnable).nodes_few)

pub loop-i-preserved : goal.loop-i-preserved
loop-i-preserved c =
    let p = c.args.process.now in
    let s = c.new-sought.ensures in
    let e = sym (rw (s.types, s.nodes, s.set, c.told_by-next.ensures) at c.entry.ensures) ∙ c.in-Some.is in
    let more = written_more p.types.now p.nodes.now c.args.set c.new-sought.result.fewest c.loop-i.i c.loop-i.table c.loop-i.run c.loop-i.invariant.1 c.in-Some.e (omega arith) e in
    (simp length-set c.loop-i.invariant.0, rw c.from.ensures more)

pub returns : goal.returns
unfolding plainest_bytes entries_after
returns c =
    let p = c.args.process.now in
    let z : 63 - c.loop-i.i ≡ 0 = omega arith in
    rw (← c.new-sought.ensures.fewest) (written_all p.types.now p.nodes.now c.args.set c.new-sought.result.fewest c.loop-i.i c.loop-i.table c.loop-i.run c.loop-i.invariant.1 (rw z))
