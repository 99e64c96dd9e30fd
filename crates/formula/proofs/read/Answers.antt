-- `formula::read` meets its contract: the readers write the postfix list of a text that is a rule.
use Rattle.formula.proofs.Turning as turning
use Rattle.formula.proofs.read.Goals as goal

pub returns : goal.returns
returns c = turning.read c.requires.becomes c.requires.n_bound c.implication.ensures
