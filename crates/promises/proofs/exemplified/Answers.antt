-- `promises::exemplified` meets its contract: each demand gives its examples.
use Rattle.promises.proofs.Examples.{from_demands}
use Rattle.promises.proofs.exemplified.Goals as goal

pub returns : goal.returns
returns c = from_demands
