-- `report::put_judgement` meets its contract: of a violation the set's line, and then those of the run.
use Rattle.text.proofs.Ends.{put_both}
use Rattle.report.proofs.put_judgement.Goals as goal

pub returns-in-Violated : goal.returns-in-Violated
returns-in-Violated c = rw c.in-Violated.is (put_both _ _ _ c.put_run.ensures c.put_numbered.ensures)
