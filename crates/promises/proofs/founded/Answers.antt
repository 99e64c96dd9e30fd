-- `promises::founded` meets its contract: the theorems are there.
use Rattle.promises.specs.Foundations.{held}
use Rattle.promises.proofs.founded.Goals as goal

pub returns : goal.returns
returns c = held
