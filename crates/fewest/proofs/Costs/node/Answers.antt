-- `Costs::node` meets its contract: the costs so far are those of the left codes passed.
use mathlib.Core.Path.{◌∙◌}
use Rattle.fewest.specs.Costs.{node_costs}
use Rattle.fewest.proofs.Rows.{node_more}
use Rattle.fewest.proofs.Costs.node.Goals as goal

pub loop-l-init : goal.loop-l-init
unfolding node_costs
loop-l-init c = c.none-costs.ensures

pub loop-l-preserved : goal.loop-l-preserved
loop-l-preserved c =
    let a = c.args in
    let row = rw a.rows.now.whole at c.row_in-row.ensures in
    rw c.from.ensures at c.add_row.ensures ∙ node_more a.form c.loop-l.l c.row_in-row.result a.x a.y c.loop-l.costs row c.loop-l.invariant
