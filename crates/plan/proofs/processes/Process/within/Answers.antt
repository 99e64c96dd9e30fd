-- `Process::within` meets its contract: what can be run within a limit can within a greater one.
use Rattle.plan.proofs.Runnable.{runnable_more}
use Rattle.plan.proofs.processes.Process.within.Goals as goal

pub invariant_of-result : goal.invariant_of-result
invariant_of-result g c = record { runnable = runnable_more g.row.LIMIT g.row.MORE c.args.self.now.types.now c.args.self.now.nodes.now c.requires c.args.self.now.runnable }
