-- `sets::leaf` meets its contract.
use Rattle.plan.proofs.Runnable.{runnable_of}
use Rattle.sets.proofs.Nodes.{leaf_exact}
use Rattle.sets.proofs.leaf.Goals as goal

pub leaf_type-kind-requires : goal.leaf_type-kind-requires
leaf_type-kind-requires c = ((runnable_of c.args.process.now.runnable).nodes_hold.keep, c.requires.0)

pub returns : goal.returns
returns c =
    let p = c.args.process.now in
    leaf_exact p.types.now p.nodes.now (runnable_of p.runnable) c.args.n c.requires.0 c.leaf.result c.requires.1 (rw (← c.leaf_type-kind.ensures, ← c.set_of.ensures) c.leaf.ensures)
