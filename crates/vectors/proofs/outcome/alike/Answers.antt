-- `vectors::outcome::alike` meets its contract: the first of the bytes that is another, or how many there are.
use mathlib.Core.Path.{◌∙◌}
use lib.ListN.{length}
use borrow.Author.Tests.{tests}
use Rattle.std.proofs.Common.{rules}
use Rattle.blocks.proofs.Ranges.{first_from_find}
use Rattle.vectors.proofs.Alike.{differs, alike_found}
use Rattle.vectors.proofs.outcome.alike.Goals as goal

pub returns : goal.returns
returns c =
    let s = c.args.shown.now in
    let b = c.args.body.now in
    c.unwrap_or.ensures
    ∙ alike_found s b c.args.at (length s) c.find.result
    (first_from_find (differs s b c.args.at) (length s) _ _ c.find.result c.find.ensures.ran (search rules) (λ x b q k. search (rules, tests)))
