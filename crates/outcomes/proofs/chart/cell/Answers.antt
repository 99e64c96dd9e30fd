-- `outcomes::chart::cell` meets its contract: the constant table of the code is computed to be the chart, all 245 places of it.
use mathlib.Core.Path.{◌≡◌, refl, ap, ◌∙◌}
use Prim.Native.Nat.{◌+◌, ◌-◌, ◌*◌}
use native.Mathlib.Omega.{arith}
use lib.ListN.{get_or}
use borrow.Author.Tests.{tests}
use Rattle.std.proofs.Common.{rules}
use Rattle.outcomes.specs.declared.chart.TheConstants.{CHART}
use Rattle.outcomes.specs.Cells.{lines, cell}
use Rattle.outcomes.specs.Table.{chart}
use Rattle.outcomes.proofs.Table.{in_chart}
use Rattle.outcomes.proofs.chart.cell.Goals as goal

is_chart : CHART ≡ chart
unfolding chart cell lines
is_chart = refl

pub returns-then-form-lt3 : goal.returns-then-form-lt3
unfolding cell
returns-then-form-lt3 c = search (rules, tests)

pub returns : goal.returns
returns c =
    rw (c.from.ensures, c.from-2.ensures, c.from-3.ensures)
    (ap (λ t. get_or t ((c.args.form - 3) * 49 + c.args.left * 7 + c.args.right) 0) is_chart
    ∙ in_chart _ _ _ c.if-form-lt3.false c.if-form-gt7.false (omega arith) (omega arith))
