-- `Layout::process` meets its contract: the types and the nodes of an accepted file lie inside it, and can be run.
use Rattle.plan.proofs.Runnable.{runnable_test}
use Rattle.plan.proofs.Demand1.{runnable}
use Rattle.plan.proofs.Inside.{types_inside, nodes_inside}
use Rattle.plan.proofs.Layout.process.Goals as goal

pub part_of-requires : goal.part_of-requires
part_of-requires c = types_inside c.args.file.now c.args.self c.requires

pub part_of-requires-2 : goal.part_of-requires-2
part_of-requires-2 c = nodes_inside c.args.file.now c.args.self c.requires

pub invariant_of-result : goal.invariant_of-result
invariant_of-result c =
    rw (c.part_of.ensures, c.part_of-2.ensures) (record { runnable = runnable_test (runnable c.args.file.now c.args.self c.requires) })
