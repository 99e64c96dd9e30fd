-- `summary::Sides::under` meets its contract: the left codes passed are joined in (`Joining`), those that are not marked having no part in it.
use Rattle.outcomes.specs.Rows.{cell_in3}
use Rattle.summary.proofs.Unions.{Joining}
use Rattle.summary.proofs.Sides.under.Given as goal

abbrev pub invariant-loop-left : goal.invariant-loop-left
invariant-loop-left l = Joining (cell_in3 l.self.table.now l.self.form) l.code l.self.a l.self.b l.left l.u
