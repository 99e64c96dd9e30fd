-- `nodes::times_named` meets its contract: no node up to j names j; a node names another at most twice, so that the sum fits.
use Rattle.std.proofs.Common.{rules, arith, ◌+◌, ◌^◌}
use borrow.Author.Tests.{tests}
use Rattle.blocks.proofs.Ranges.{rest_from_sum, fits_from_rest}
use Rattle.nodes.specs.Nodes.{count, form, left, right}
use Rattle.nodes.specs.NodeTests.{naming}
use Rattle.nodes.proofs.Named.{named_most, none_upto}
use Rattle.nodes.proofs.times_named.Goals as goal

pub sum-requires-clause-fits : goal.sum-requires-clause-fits
sum-requires-clause-fits c =
    let a = c.args in
    fits_from_rest (λ i. naming a.j (form a.b.now i) (left a.b.now i) (right a.b.now i)) (a.j + 1) (count a.b.now) _ (omega arith) (2 ^ 64) (omega (arith, named_most a.b.now a.j)) c.map.ensures.source c.map.ensures.closure (λ x r q k. search (rules, tests))

pub returns : goal.returns
returns c =
    let a = c.args in
    let sum = rest_from_sum (λ i. naming a.j (form a.b.now i) (left a.b.now i) (right a.b.now i)) (a.j + 1) (count a.b.now) _ (omega arith) _ c.sum.ensures.ran c.map.ensures.source c.map.ensures.closure (λ x r q k. search (rules, tests)) in
    omega (arith, sum, none_upto a.b.now a.j c.requires.0 c.requires.1)
