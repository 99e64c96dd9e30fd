-- `comparison::lines::lines` meets its contract: the lines are those of the comparison, and have room in a text.
use mathlib.Core.Path.{ap, ◌∙◌}
use borrow.Author.Tests.{not-true, not-false}
use Rattle.text.specs.Text.{text_of}
use Rattle.comparison.specs.Lines.{lines_for}
use Rattle.comparison.specs.declared.Comparison.{Comparison}
use Rattle.comparison.proofs.Texts.{undamaged, also_damaged}
use Rattle.comparison.proofs.lines.lines.Goals as goal

pub returns-then-not-c : goal.returns-then-not-c
returns-then-not-c c =
    let a = c.args in
    let all = also_damaged a.group a.s.now c.compared-c.result (not-true c.compared-c.result.whole c.if-not-c.true) in
    rw (c.put_damage.ensures, c.put_counts.ensures, c.put_first.ensures, c.new-t.ensures) (all ∙ ap (λ (x : Comparison). text_of (lines_for a.group a.s.now x)) c.compared-c.ensures)

pub returns-else-not-c : goal.returns-else-not-c
returns-else-not-c c =
    let a = c.args in
    let all = undamaged a.group a.s.now c.compared-c.result (not-false c.compared-c.result.whole c.if-not-c.false) in
    rw (c.put_counts.ensures, c.put_first.ensures, c.new-t.ensures) (all ∙ ap (λ (x : Comparison). text_of (lines_for a.group a.s.now x)) c.compared-c.ensures)
