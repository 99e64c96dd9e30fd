-- `state::state_after` meets its contract: what is left of the record from the table so far is what the whole is from the start.
use mathlib.Core.Path.{sym, ◌∙◌}
use native.Mathlib.Omega.{arith}
use lib.ListN.{length-set}
use Rattle.plan.proofs.Runnable.{runnable_of}
use Rattle.state.proofs.May.{comes_small}
use Rattle.state.proofs.Replays.{replay_step, replay_end}
use Rattle.state.proofs.state_after.Goals as goal

pub returns-then-not-may_come : goal.returns-then-not-may_come
returns-then-not-may_come c =
    let a = c.args in
    let p = a.process.now in
    sym (c.loop-i.invariant.1 ∙ replay_step p.types.now p.nodes.now a.entries.now a.taken c.loop-i.table c.loop-i.i (omega arith) ∙ rw (sym c.may_come.ensures ∙ c.if-not-may_come.true))

-- an entry that may come is in the table
pub bounds-table-from : goal.bounds-table-from
bounds-table-from c =
    let a = c.args in
    let p = a.process.now in
    rw c.from.ensures (comes_small p.types.now p.nodes.now c.loop-i.table _ _ (runnable_of p.runnable) (sym c.may_come.ensures ∙ c.if-not-may_come.false))

pub loop-i-preserved : goal.loop-i-preserved
loop-i-preserved c =
    let a = c.args in
    let p = a.process.now in
    let came = sym c.may_come.ensures ∙ c.if-not-may_come.false in (
      simp length-set c.loop-i.invariant.0,
      rw c.from.ensures (c.loop-i.invariant.1 ∙ replay_step p.types.now p.nodes.now a.entries.now a.taken c.loop-i.table c.loop-i.i (omega arith) ∙ rw came),
    )

pub returns : goal.returns
returns c =
    let a = c.args in
    let p = a.process.now in
    sym (c.loop-i.invariant.1 ∙ replay_end p.types.now p.nodes.now a.entries.now a.taken c.loop-i.table c.loop-i.i (omega arith))
