-- `report::put_run` meets its contract: the lines that are left are those of the next entry, and of the rest.
use mathlib.Core.Path.{sym, ◌∙◌}
use native.Mathlib.Omega.{arith}
use Rattle.report.proofs.RunLines.{run_goes, run_over}
use Rattle.report.proofs.put_run.Goals as goal

pub loop-i-preserved : goal.loop-i-preserved
loop-i-preserved c = c.loop-i.invariant ∙ (run_goes c.loop-i.t c.args.run.now c.loop-i.i (omega arith) ∙ rw c.put_entry.ensures)

pub returns : goal.returns
returns c = sym (c.loop-i.invariant ∙ run_over c.loop-i.t c.args.run.now c.loop-i.i (omega arith))
