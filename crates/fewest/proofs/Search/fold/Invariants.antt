-- `Search::fold` meets its contract: the costs of the nodes passed are filled in, each part of a node before it.
use Rattle.nodes.proofs.Filled.{Filled}
use Rattle.fewest.specs.Search.{wishes}
use Rattle.fewest.proofs.Folded.{blank, leaf_costs_at, node_costs_at}
use Rattle.fewest.proofs.Search.fold.Given as goal

abbrev pub invariant-loop-i : goal.invariant-loop-i
invariant-loop-i l =
    let may = wishes l.nodes l.self.set l.table in
    Filled (leaf_costs_at may l.self.process.types.now l.nodes) (node_costs_at may l.self.process.types.now l.nodes) l.nodes blank 63 l.i l.costs
