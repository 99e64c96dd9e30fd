-- `job::fresh_job` meets its contract: the plan file's bytes are copied into zeros.
use Rattle.plan.specs.PlanFile.{most_bytes}
use Rattle.job.proofs.Bytes.{padded}
use Rattle.job.proofs.fresh_job.Goals as goal

pub returns : goal.returns
returns c = rw (c.untimed.ensures, c.copy_from_slice.ensures.after, padded most_bytes c.args.s.now)
