-- `pairs::pairs_of` meets its contract: a pair counts at most once, so that the sum fits.
use Rattle.std.proofs.Common.{rules, arith, eqb, ◌^◌}
use borrow.Author.Tests.{tests}
use Rattle.blocks.specs.Bounded.{one}
use Rattle.blocks.proofs.Bounded.{count_most}
use Rattle.blocks.proofs.Ranges.{total_from_sum, fits_from_total}
use Rattle.bodies.specs.Pairs.{pair_count, first}
use Rattle.bodies.proofs.pairs.pairs_of.Goals as goal

pub sum-requires-clause-fits : goal.sum-requires-clause-fits
sum-requires-clause-fits c =
    let a = c.args in
    fits_from_total (λ i. one (eqb (first a.b.now i) a.action)) (pair_count a.b.now) _ (2 ^ 64) (omega (arith, count_most (λ i. eqb (first a.b.now i) a.action) (pair_count a.b.now))) c.map.ensures.source c.map.ensures.closure (λ x r q k. search (rules, tests))

pub returns : goal.returns
returns c =
    let a = c.args in
    total_from_sum (λ i. one (eqb (first a.b.now i) a.action)) (pair_count a.b.now) _ _ c.sum.ensures.ran c.map.ensures.source c.map.ensures.closure (λ x r q k. search (rules, tests))
