-- `pairs::apart_from_all` meets its contract: it tests each pair.
use Rattle.std.proofs.Common.{rules}
use borrow.Author.Tests.{tests}
use Rattle.blocks.proofs.Ranges.{every_from_all}
use Rattle.bodies.specs.Pairs.{pair_count, first, second, apart_ok}
use Rattle.bodies.proofs.pairs.apart_from_all.Goals as goal

pub returns : goal.returns
returns c =
    let a = c.args in
    every_from_all (λ j. apart_ok a.i (first a.b.now a.i) (second a.b.now a.i) j (first a.b.now j) (second a.b.now j)) (pair_count a.b.now) _ _ _ c.all.ensures.ran (search rules) (λ x b q k. search (rules, tests))
