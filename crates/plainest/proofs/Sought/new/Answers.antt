-- `Sought::new` meets its contract: where some complete run leaves the set, the search finds the fewest.
use Rattle.plan.proofs.Runnable.{runnable_of}
use Rattle.plainest.proofs.Asked.{found}
use Rattle.plainest.proofs.Sought.new.Goals as goal

pub invariant_of-result : goal.invariant_of-result
invariant_of-result c =
    let p = c.args.process.now in
    let x = found p.types.now p.nodes.now (runnable_of p.runnable) c.args.set c.requires.0 c.requires.1 c.fewest.result (rw (c.within.ensures.same_types, c.within.ensures.same_nodes) at c.fewest.ensures) in
    record { all = c.from.ensures; some = x.1 }

pub returns-clause-fewest : goal.returns-clause-fewest
returns-clause-fewest c =
    let p = c.args.process.now in
    let x = found p.types.now p.nodes.now (runnable_of p.runnable) c.args.set c.requires.0 c.requires.1 c.fewest.result (rw (c.within.ensures.same_types, c.within.ensures.same_nodes) at c.fewest.ensures) in
    x.0
