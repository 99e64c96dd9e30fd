-- `job::start_with` meets its contract: an accepted file has room in a job.
use Rattle.plan.proofs.Demand1.{demand1}
use Rattle.job.proofs.start_with.Goals as goal

pub fresh_job-requires : goal.fresh_job-requires
fresh_job-requires c = demand1.most c.args.s.now c.args.l c.requires

pub returns : goal.returns
returns c = rw (c.fresh_job.ensures, c.into.ensures, c.told_by-told.ensures, c.process.ensures.nodes)
