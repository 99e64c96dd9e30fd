-- What is left of the cells, put into the text so far, gives what all of them give.
use Rattle.std.proofs.Common.{◌≡◌, ◌-◌}
use Rattle.text.specs.Text.{appended}
use Rattle.text.specs.Lines.{each}
use Rattle.chart.specs.Lines.{cell_text}
use Rattle.chart.proofs.put_cells.Given as goal

abbrev pub invariant-loop-place : goal.invariant-loop-place
invariant-loop-place l = appended l.initial.t (each (cell_text l.form) 0 49) ≡ appended l.t (each (cell_text l.form) l.place (49 - l.place))
