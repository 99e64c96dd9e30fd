-- `sheet::rows::heading` meets its contract: the line has room in a text.
use Rattle.text.proofs.Ends.{put_alone}
use Rattle.sheet.specs.Row.{heading_line}
use native.Mathlib.Omega.{arith}
use Rattle.sheet.proofs.rows.heading.Goals as goal

pub returns : goal.returns
returns c = put_alone heading_line c.put.ensures c.new-t.ensures (omega arith)
