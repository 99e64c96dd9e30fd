-- `summary::mark` meets its contract: the digits passed are marked (`Marking`).
use Rattle.summary.proofs.Marking.{Marking}
use Rattle.summary.proofs.mark.Given as goal

abbrev pub invariant-loop-rest : goal.invariant-loop-rest
invariant-loop-rest l = Marking l.initial.marks l.row l.rights l.left l.marks l.rest l.on

abbrev pub decreases-loop-rest : goal.decreases-loop-rest
decreases-loop-rest l = l.rest
