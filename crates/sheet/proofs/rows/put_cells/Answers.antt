-- `sheet::rows::put_cells` meets its contract: the cells that are left are that of the next entry, and of the rest.
use mathlib.Core.Path.{sym, ◌∙◌}
use native.Mathlib.Numerals.{add-one}
use native.Mathlib.Omega.{arith}
use Rattle.sheet.proofs.Cells.{cells_over, cells_go}
use Rattle.sheet.proofs.rows.put_cells.Goals as goal

pub loop-i-preserved : goal.loop-i-preserved
loop-i-preserved c = c.loop-i.invariant ∙ (cells_go c.loop-i.t c.args.run.now c.loop-i.i (omega arith) ∙ rw (c.put_cell.ensures, add-one c.loop-i.i))

pub returns : goal.returns
returns c = sym (c.loop-i.invariant ∙ cells_over c.loop-i.t c.args.run.now c.loop-i.i (omega arith))
