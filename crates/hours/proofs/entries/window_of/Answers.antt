-- `entries::window_of` meets its contract: the window is the first that names the action, if one does.
use Rattle.std.proofs.Common.{rules, arith, sym, ◌∙◌}
use borrow.Author.Tests.{tests}
use Rattle.blocks.proofs.Ranges.{first_from_find}
use Rattle.hours.specs.Windows.{window_count}
use Rattle.hours.proofs.WindowFrom.{names, found}
use Rattle.hours.proofs.entries.window_of.Goals as goal

pub window_at-requires : goal.window_at-requires
window_at-requires c =
    let a = c.args in
    let h = found a.w.now a.action c.find.result (first_from_find (names a.w.now a.action) (window_count a.w.now) _ _ c.find.result c.find.ensures.ran (search rules) (λ x b q k. search (rules, tests))) in
    (rw c.in-Some.is at h).0

pub returns-in-Some : goal.returns-in-Some
returns-in-Some c =
    let a = c.args in
    let h = found a.w.now a.action c.find.result (first_from_find (names a.w.now a.action) (window_count a.w.now) _ _ c.find.result c.find.ensures.ran (search rules) (λ x b q k. search (rules, tests))) in
    (c.window_at.ensures.0 ∙ sym (rw c.in-Some.is at h).1, c.window_at.ensures.1)

pub returns-in-None : goal.returns-in-None
returns-in-None c =
    let a = c.args in
    let h = found a.w.now a.action c.find.result (first_from_find (names a.w.now a.action) (window_count a.w.now) _ _ c.find.result c.find.ensures.ran (search rules) (λ x b q k. search (rules, tests))) in
    (c.whole_week.ensures ∙ sym (rw c.in-None.is at h), rw c.whole_week.ensures (omega arith))
