-- `least::find` meets its contract: the sets of the words passed satisfy the rule.
use Rattle.std.proofs.Common.{◌^◌, ◌<◌, rules}
use lib.Count.{count_trailing_zeros}
use Rattle.family.proofs.Lowest.{lowest}
use Rattle.least.proofs.Scan.{word_found}
use Rattle.least.proofs.find.Goals as goal

pub returns-then-broken-ne0 : goal.returns-then-broken-ne0
returns-then-broken-ne0 c =
    let a = c.args in
    let broken = c.violations-broken.result in
    let fits : c.violations-broken.result < 2 ^ 64 = search rules in
    word_found a.rule.now a.pairs.now a.f c.loop-w.w broken (c.violations-broken.ensures a.pairs.now c.loop-w.invariant.0)
    (count_trailing_zeros 64 broken) (lowest 64 broken fits c.if-broken-ne0.true) c.loop-w.invariant.1
