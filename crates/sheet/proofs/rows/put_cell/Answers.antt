-- `sheet::rows::put_cell` meets its contract: the gap, the leaf, the colon and the outcome, one after the other.
use mathlib.Core.Path.{sym}
use Rattle.text.specs.Decimal.{decimal}
use Rattle.sheet.specs.Row.{gap}
use Rattle.sheet.proofs.Cells.{cell_parts}
use Rattle.sheet.proofs.rows.put_cell.Goals as goal

pub returns : goal.returns
returns c =
    let a = c.args in
    rw (c.put_decimal-2.ensures, c.from-2.ensures, c.push.ensures, c.put_decimal.ensures, c.from.ensures, c.put_gap.ensures) (sym (cell_parts a.t.now (gap a.i) (decimal a.leaf) (decimal a.outcome)))
