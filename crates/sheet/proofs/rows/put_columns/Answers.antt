-- `sheet::rows::put_columns` meets its contract: the word, the number and the tab, one after the other.
use mathlib.Core.Path.{◌∙◌}
use Rattle.text.specs.Decimal.{decimal}
use Rattle.sheet.proofs.Cells.{put_columns}
use Rattle.sheet.proofs.rows.put_columns.Goals as goal

pub returns : goal.returns
returns c =
    let a = c.args in
    let word = a.word.now in
    c.push.ensures ∙ rw (c.put_decimal.ensures, c.put.ensures) (put_columns a.t.now word (decimal a.number))
