-- `job::timed::start_with` meets its contract: a window file that is accepted has room in the job, since it names no action twice.
use mathlib.Core.Path.{sym, ◌∙◌}
use Rattle.hours.proofs.ReadsWindows.{passes_file}
use Rattle.plan.proofs.Demand1.{demand1}
use Rattle.job.proofs.Hourly.{windows_room}
use Rattle.job.proofs.timed.start_with.Goals as goal

pub fresh_timed-requires : goal.fresh_timed-requires
fresh_timed-requires c =
    let a = c.args in (
      demand1.most a.s.now a.l c.requires,
      windows_room a.s.now a.l c.requires a.w.now (passes_file a.l.types.len a.w.now (sym c.check.ensures ∙ c.in-Ok.is)),
    )
