-- `pairs::pairs_ok` meets its contract: it tests each pair.
use Rattle.std.proofs.Common.{rules}
use borrow.Author.Tests.{tests}
use Rattle.blocks.proofs.Ranges.{every_from_all}
use Rattle.bodies.specs.Pairs.{pair_count, pair_ok}
use Rattle.bodies.proofs.pairs.pairs_ok.Goals as goal

pub returns : goal.returns
returns c =
    let a = c.args in
    every_from_all (pair_ok a.actions a.b.now) (pair_count a.b.now) _ _ _ c.all.ensures.ran (search rules) (λ x b q k. search (rules, tests))
