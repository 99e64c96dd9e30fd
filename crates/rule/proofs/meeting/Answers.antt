-- `rule::meeting` meets its contract: the sets gathered have one of the actions passed, and more than one.
use Rattle.std.proofs.Common.{rules}
use Rattle.rule.proofs.Gathered.{gathered_none, gathered_more, gathered_all}
use Rattle.rule.proofs.meeting.Goals as goal

pub loop-rest-init : goal.loop-rest-init
loop-rest-init c = gathered_none

pub loop-rest-preserved : goal.loop-rest-preserved
loop-rest-preserved c = gathered_more c.loop-rest.invariant (search rules) c.loop-rest-test.true c.having-sets.ensures

pub returns : goal.returns
returns c = gathered_all c.loop-rest.invariant c.loop-rest-test.false
