-- `Costs::node` meets its contract: the costs so far are those of the left codes passed.
use mathlib.Core.Path.{◌≡◌}
use Rattle.outcomes.specs.ThreeLevels.{cell3}
use Rattle.fewest.specs.Costs.{node_costs}
use Rattle.fewest.proofs.Costs.node.Given as goal

abbrev pub invariant-loop-l : goal.invariant-loop-l
invariant-loop-l l = l.costs ≡ node_costs (cell3 l.form) l.x l.y l.l
