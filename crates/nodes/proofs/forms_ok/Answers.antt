-- `nodes::forms_ok` meets its contract: it tests each node.
use Rattle.std.proofs.Common.{rules}
use borrow.Author.Tests.{tests}
use Rattle.blocks.proofs.Ranges.{every_from_all}
use Rattle.nodes.specs.Nodes.{count, form, left, right}
use Rattle.nodes.specs.NodeTests.{node_ok}
use Rattle.nodes.proofs.forms_ok.Goals as goal

pub returns : goal.returns
returns c =
    let a = c.args in
    every_from_all (λ i. node_ok a.actions i (form a.b.now i) (left a.b.now i) (right a.b.now i)) (count a.b.now) _ _ _ c.all.ensures.ran (search rules) (λ x b q k. search (rules, tests))
