-- `least::finals` meets its contract.
use Rattle.least.proofs.Whole.{finals_joined}
use Rattle.least.proofs.finals.Goals as goal

pub returns : goal.returns
returns c = finals_joined c.args.s _ _ _ c.join.ensures c.join-2.ensures c.join-3.ensures
