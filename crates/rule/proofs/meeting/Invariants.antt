-- `rule::meeting` meets its contract: the sets gathered have one of the actions passed, and more than one.
use Rattle.rule.proofs.Gathered.{Gathered}
use Rattle.rule.proofs.meeting.Given as goal

abbrev pub invariant-loop-rest : goal.invariant-loop-rest
invariant-loop-rest l = Gathered l.mask l.w l.met.some l.met.more l.rest

abbrev pub decreases-loop-rest : goal.decreases-loop-rest
decreases-loop-rest l = l.rest
