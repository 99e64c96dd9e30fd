-- `report::put_entry` meets its contract: the leaf, and then the rest of its line.
use mathlib.Core.List.{◌∷◌}
use Rattle.text.specs.Decimal.{decimal}
use Rattle.text.specs.Lines.{line}
use Rattle.text.proofs.Texts.{appended_both}
use Rattle.report.proofs.put_entry.Goals as goal

pub returns : goal.returns
returns c =
    let a = c.args in
    cc (appended_both a.t.now (decimal a.leaf) (32 ∷ line (decimal a.outcome)))
