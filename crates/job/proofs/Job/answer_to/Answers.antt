-- `Job::answer_to` meets its contract: an entry that may come is of a node, so that the table has its place.
use mathlib.Core.Path.{sym, ◌∙◌}
use native.Mathlib.Omega.{arith}
use Rattle.plan.proofs.Runnable.{runnable_of}
use Rattle.state.proofs.May.{comes_small}
use Rattle.job.proofs.Job.answer_to.Goals as goal

pub bounds-table-from : goal.bounds-table-from
bounds-table-from c =
    let p = c.process-process.result in
    let small = comes_small p.types.now p.nodes.now c.in-Ok-state_after.table c.args.e.leaf c.args.e.outcome (runnable_of p.runnable) (sym c.may_come.ensures ∙ c.if-not-may_come.false) in
    omega (arith, small, c.from.ensures)
