-- `sets::set_of` meets its contract: an action's number is below the number of bits.
use mathlib.Core.Path.{◌∙◌}
use Prim.Native.Nat.{◌<◌}
use native.Mathlib.Omega.{arith}
use borrow.Author.Tests.{eq-eqb}
use Rattle.family.proofs.Bits.{one_shifted}
use Rattle.plan.proofs.Runnable.{runnable_of}
use Rattle.sets.proofs.Nodes.{action_small}
use Rattle.sets.proofs.set_of.Goals as goal

pub overflow_shl-result : goal.overflow_shl-result
overflow_shl-result c =
    let p = c.args.process.now in
    let e = c.node_at-x.ensures in
    let few : c.node_at-x.result.left < 10 = rw e (action_small p.types.now p.nodes.now (runnable_of p.runnable) c.args.n c.requires (rw e at c.if-x-eq0.true)) in
    omega arith

pub returns-then-x-eq0 : goal.returns-then-x-eq0
returns-then-x-eq0 c =
    let p = c.args.process.now in
    let e = c.node_at-x.ensures in
    let few : c.node_at-x.result.left < 10 = rw e (action_small p.types.now p.nodes.now (runnable_of p.runnable) c.args.n c.requires (rw e at c.if-x-eq0.true)) in
    one_shifted c.node_at-x.result.left (omega arith) ∙ rw (e, eq-eqb _ _ (rw e at c.if-x-eq0.true))
