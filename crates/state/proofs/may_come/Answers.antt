-- `state::may_come` meets its contract: each return by the test that led there; a bit is read by a shift.
use mathlib.Core.Path.{sym}
use native.Mathlib.Omega.{arith}
use Rattle.std.proofs.lemmas.Grind.{common_steps}
use Rattle.plan.proofs.Runnable.{runnable_of}
use Rattle.state.specs.State.{may_come}
use Rattle.state.proofs.May.{permits_present}
use Rattle.state.proofs.may_come.Goals as goal

pub overflow_shr-result : goal.overflow_shr-result
overflow_shr-result c =
    let a = c.args in
    let permitted = rw (c.if-leaf_permits.true, c.from-n.ensures) at c.leaf_permits.ensures in
    omega (arith, permits_present a.process.now.types.now a.process.now.nodes.now a.leaf a.outcome (sym permitted), (runnable_of a.process.now.runnable).nodes_few, c.from-n.ensures)

pub returns-then-leaf_permits : goal.returns-then-leaf_permits
unfolding may_come
returns-then-leaf_permits c = grind (arith, common_steps)

pub returns-else-leaf_permits : goal.returns-else-leaf_permits
unfolding may_come
returns-else-leaf_permits c = grind (arith, common_steps)
