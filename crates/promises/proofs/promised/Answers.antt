-- `promises::promised` meets its contract: the promises hold.
use Rattle.promises.proofs.Promises.{promises}
use Rattle.promises.proofs.promised.Goals as goal

pub returns : goal.returns
returns c = promises
