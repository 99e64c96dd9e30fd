-- `sheet::rows::put_cells` meets its contract. The invariant: the cells of the entries that are left, put into the text so far, give what all of them give to the first.
use mathlib.Core.Path.{◌≡◌}
use lib.ListN.{drop}
use Rattle.text.specs.Text.{appended}
use Rattle.judge.specs.Shown.{shown_entries}
use Rattle.sheet.specs.Row.{cells}
use Rattle.sheet.proofs.rows.put_cells.Given as goal

abbrev pub invariant-loop-i : goal.invariant-loop-i
invariant-loop-i l = appended l.initial.t (cells 0 (shown_entries l.run)) ≡ appended l.t (cells l.i (drop l.i (shown_entries l.run)))
