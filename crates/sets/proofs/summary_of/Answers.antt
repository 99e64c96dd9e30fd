-- `sets::summary_of` meets its contract: both parts stand before the composite.
use native.Mathlib.Omega.{arith}
use Rattle.outcomes.proofs.InRows.{cell_in_rows}
use Rattle.plan.proofs.Runnable.{runnable_of}
use Rattle.plan.proofs.Tree.{parts_smaller}
use Rattle.sets.proofs.Nodes.{node_exact}
use Rattle.sets.proofs.summary_of.Goals as goal

pub part-requires : goal.part-requires
part-requires c =
    let p = c.args.process.now in
    let (l, r) = parts_smaller p.types.now p.nodes.now (runnable_of p.runnable) c.args.n c.requires.0 c.requires.1 in
    rw c.node_at-x.ensures (omega arith, λ i h. c.requires.2 i (omega arith), λ i h. c.requires.3 i (omega arith))

pub part-requires-2 : goal.part-requires-2
part-requires-2 c =
    let p = c.args.process.now in
    let (l, r) = parts_smaller p.types.now p.nodes.now (runnable_of p.runnable) c.args.n c.requires.0 c.requires.1 in
    rw c.node_at-x.ensures (omega arith, λ i h. c.requires.2 i (omega arith), λ i h. c.requires.3 i (omega arith))

pub returns : goal.returns
returns c =
    let p = c.args.process.now in
    let e = c.node_at-x.ensures in
    node_exact p.types.now p.nodes.now (runnable_of p.runnable) c.args.n c.requires.0 _ _ c.node.result c.requires.1 (rw e at c.part.ensures) (rw e at c.part-2.ensures)
    (rw (e, c.args.rows.now.whole, cell_in_rows) at c.node.ensures)
