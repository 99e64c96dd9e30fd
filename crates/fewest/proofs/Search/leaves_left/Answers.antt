-- `Search::leaves_left` meets its contract.
use mathlib.Core.Path.{◌∙◌}
use borrow.Author.Tests.{tests}
use Rattle.std.proofs.Common.{rules}
use Rattle.blocks.proofs.Ranges.{total_from_count}
use Rattle.nodes.specs.Nodes.{count}
use Rattle.fewest.specs.Search.{is_left}
use Rattle.fewest.proofs.Below.{count_total}
use Rattle.fewest.proofs.Search.leaves_left.Goals as goal

pub returns : goal.returns
returns c =
    let a = c.args in
    let p = a.self.now.process in
    let test = is_left p.types.now p.nodes.now a.self.now.set a.table.now a.a a.best in
    total_from_count test (count p.nodes.now) _ _ c.count.ensures.ran c.filter.ensures.source c.filter.ensures.closure (λ x d q k. search (rules, tests)) ∙ count_total (count p.nodes.now) test
