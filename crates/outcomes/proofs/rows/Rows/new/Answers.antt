-- `outcomes::rows::Rows::new` meets its contract: the constant rows of the code are computed to be those of the chart, all 75 of them.
use mathlib.Core.Path.{refl}
use Rattle.outcomes.specs.LevelCells.{cell_at}
use Rattle.outcomes.specs.ThreeLevels.{cell3}
use Rattle.outcomes.specs.Rows.{rows}
use Rattle.outcomes.proofs.rows.Rows.new.Goals as goal

pub invariant_of-result : goal.invariant_of-result
unfolding rows cell3 cell_at
invariant_of-result c = record { whole = refl }
