-- `Search::is_finished` meets its contract.
use mathlib.Core.Path.{◌∙◌}
use mathlib.Core.Bool.{Bool, ◌&&◌}
use Prim.Native.Nat.{ℕ}
use borrow.Author.Tests.{tests}
use lib.Dec.{eqb}
use Rattle.std.proofs.Common.{rules}
use Rattle.blocks.proofs.Ranges.{every_from_any}
use Rattle.nodes.specs.Nodes.{count}
use Rattle.fewest.specs.Leaving.{outcome_at}
use Rattle.fewest.specs.Search.{is_leaf_of}
use Rattle.fewest.proofs.Below.{any_every}
use Rattle.fewest.proofs.Search.is_finished.Goals as goal

pub returns : goal.returns
returns c =
    let a = c.args in
    let b = a.self.now.process.nodes.now in
    let test : ℕ → Bool = λ n. is_leaf_of b a.a n && eqb (outcome_at a.table.now n) 1 in
    every_from_any test (count b) _ _ _ c.any.ensures.ran (search rules) (λ x d q k. search (rules, tests)) ∙ any_every (count b) test
