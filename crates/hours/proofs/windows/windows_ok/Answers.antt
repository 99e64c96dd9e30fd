-- `windows::windows_ok` meets its contract: it tests each window.
use Rattle.std.proofs.Common.{rules}
use borrow.Author.Tests.{tests, eq-eqb}
use Rattle.blocks.proofs.Ranges.{every_from_all}
use Rattle.hours.specs.Windows.{window_count, window_ok}
use Rattle.hours.proofs.windows.windows_ok.Goals as goal

pub returns-then-w-eq0 : goal.returns-then-w-eq0
returns-then-w-eq0 c =
    let a = c.args in
    rw (eq-eqb _ _ c.if-w-eq0.true)
    (every_from_all (window_ok a.actions a.w.now) (window_count a.w.now) _ _ _ c.all.ensures.ran (search rules) (λ x b q k. search (rules, tests)))
