-- `Costs::add_row` meets its contract: the costs so far are those of the cells passed, and where nothing is left of the row those of all.
use mathlib.Core.Path.{◌≡◌}
use Prim.Native.Nat.{◌*◌, ◌/◌, ◌^◌}
use Rattle.fewest.specs.Costs.{row_costs}
use Rattle.outcomes.specs.Rows.{row_cell}
use Rattle.fewest.proofs.Costs.add_row.Given as goal

abbrev pub invariant-loop-r : goal.invariant-loop-r
invariant-loop-r l = (l.rest ≡ l.row / 2 ^ (4 * l.r)) × (l.self ≡ row_costs (row_cell l.row) l.k l.right l.r l.initial.self)
