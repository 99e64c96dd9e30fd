-- `types::types_ok` meets its contract: it tests each byte.
use Rattle.std.proofs.Common.{rules}
use borrow.Author.Tests.{tests}
use Rattle.blocks.proofs.Ranges.{every_from_slice}
use Rattle.bodies.specs.Types.{is_type}
use Rattle.bodies.proofs.types.types_ok.Goals as goal

pub returns : goal.returns
returns c = every_from_slice is_type c.args.b.now 0 _ _ _ c.all.ensures.ran (search rules) (λ x b q k. search (rules, tests))
