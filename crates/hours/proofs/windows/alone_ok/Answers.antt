-- `windows::alone_ok` meets its contract: it tests each window.
use Rattle.std.proofs.Common.{rules}
use borrow.Author.Tests.{tests}
use Rattle.blocks.proofs.Ranges.{every_from_all}
use Rattle.hours.specs.Windows.{window_count, action, beside_ok}
use Rattle.hours.proofs.windows.alone_ok.Goals as goal

pub returns : goal.returns
returns c =
    let a = c.args in
    every_from_all (λ j. beside_ok a.i (action a.w.now a.i) j (action a.w.now j)) (window_count a.w.now) _ _ _ c.all.ensures.ran (search rules) (λ x b q k. search (rules, tests))
