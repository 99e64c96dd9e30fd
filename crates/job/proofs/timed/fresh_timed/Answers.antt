-- `job::timed::fresh_timed` meets its contract: the window file's bytes are copied into zeros.
use Rattle.job.specs.Job.{most_windows}
use Rattle.job.proofs.Bytes.{padded}
use Rattle.job.proofs.timed.fresh_timed.Goals as goal

pub returns : goal.returns
returns c = rw (c.fresh_job.ensures, c.copy_from_slice.ensures.after, padded most_windows c.args.w.now)
