-- `sheet::rows::put_refused` meets its contract: the columns, and the end of the row.
use mathlib.Core.Path.{◌∙◌}
use mathlib.Core.List.{[]}
use Rattle.sheet.proofs.Cells.{refused_row}
use Rattle.sheet.proofs.rows.put_refused.Goals as goal

pub returns : goal.returns
returns c = c.push.ensures ∙ rw c.put_columns.ensures (refused_row c.args.t.now c.args.number [])
