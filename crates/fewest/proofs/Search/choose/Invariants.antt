-- `Search::choose` meets its contract: of the actions passed one that is due is chosen, where some is.
use Rattle.fewest.specs.Search.{Chosen}
use Rattle.fewest.proofs.Search.choose.Given as goal

abbrev pub invariant-loop-action : goal.invariant-loop-action
invariant-loop-action l = Chosen l.action l.self.process.types.now l.self.process.nodes.now l.self.set l.table l.best l.choice
