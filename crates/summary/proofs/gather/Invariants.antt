-- `summary::gather` meets its contract: the right codes passed are gathered (`Gathering`).
use Rattle.outcomes.specs.Rows.{row_cell}
use Rattle.summary.proofs.Unions.{Gathering}
use Rattle.summary.proofs.gather.Given as goal

abbrev pub invariant-loop-right : goal.invariant-loop-right
invariant-loop-right l = Gathering (row_cell l.row) l.code l.b l.right l.g
