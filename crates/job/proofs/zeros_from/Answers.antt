-- `job::zeros_from` meets its contract: what all over the bytes answers.
use mathlib.Core.Bool.{true, cond}
use lib.Dec.{ltb, eqb}
use lib.ListN.{length, get_or}
use borrow.Author.Tests.{tests}
use Rattle.std.proofs.Common.{rules}
use Rattle.blocks.proofs.Ranges.{every_from_all}
use Rattle.job.proofs.zeros_from.Goals as goal

pub returns : goal.returns
returns c =
    let s = c.args.s.now in
    every_from_all (λ i. cond (ltb i c.args.at) true (eqb (get_or s i 0) 0)) (length s) _ _ _ c.all.ensures.ran (search rules) (λ x b q k. search (rules, tests))
