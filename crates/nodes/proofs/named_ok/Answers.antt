-- `nodes::named_ok` meets its contract: it tests each node but the last.
use Rattle.std.proofs.Common.{rules, ◌-◌, eqb}
use borrow.Author.Tests.{tests}
use Rattle.blocks.proofs.Ranges.{every_from_all}
use Rattle.nodes.specs.Nodes.{count}
use Rattle.nodes.specs.NodeTests.{times_named}
use Rattle.nodes.proofs.named_ok.Goals as goal

pub returns : goal.returns
returns c =
    let b = c.args.b.now in
    every_from_all (λ j. eqb (times_named b j) 1) (count b - 1) _ _ _ c.all.ensures.ran (search rules) (λ x b q k. search (rules, tests))
