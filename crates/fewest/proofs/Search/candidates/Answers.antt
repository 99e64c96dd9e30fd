-- `Search::candidates` meets its contract.
use mathlib.Core.Path.{◌∙◌}
use borrow.Author.Tests.{tests}
use Rattle.std.proofs.Common.{rules}
use Rattle.blocks.proofs.Ranges.{total_from_count}
use Rattle.nodes.specs.Nodes.{count}
use Rattle.fewest.specs.Search.{candidate}
use Rattle.fewest.proofs.Below.{count_total}
use Rattle.fewest.proofs.Search.candidates.Goals as goal

pub returns : goal.returns
returns c =
    let a = c.args in
    let b = a.self.now.process.nodes.now in
    let test = candidate b a.table.now a.a in
    total_from_count test (count b) _ _ c.count.ensures.ran c.filter.ensures.source c.filter.ensures.closure (λ x d q k. search (rules, tests)) ∙ count_total (count b) test
