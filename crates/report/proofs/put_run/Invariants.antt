-- `report::put_run` meets its contract. The invariant: the lines of the entries that are left, put into the text so far, give what all of them give to the first.
use mathlib.Core.Path.{◌≡◌}
use lib.ListN.{drop}
use Rattle.text.specs.Text.{appended}
use Rattle.judge.specs.Shown.{shown_entries}
use Rattle.report.specs.Lines.{entry_lines}
use Rattle.report.proofs.put_run.Given as goal

abbrev pub invariant-loop-i : goal.invariant-loop-i
invariant-loop-i l = appended l.initial.t (entry_lines (shown_entries l.run)) ≡ appended l.t (entry_lines (drop l.i (shown_entries l.run)))
