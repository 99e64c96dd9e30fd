-- `state::leaf_permits` meets its contract: each return by the tests that led there.
use mathlib.Core.Path.{sym, ◌∙◌}
use Rattle.std.proofs.lemmas.Grind.{common_steps}
use native.Mathlib.Omega.{arith}
use borrow.Author.Tests.{ltb-true}
use Rattle.plan.proofs.Runnable.{runnable_of}
use Rattle.state.specs.State.{leaf_permits}
use Rattle.state.proofs.leaf_permits.Goals.{then-n-process, else-n-process}
use Rattle.state.proofs.leaf_permits.Goals as goal

pub leaf_type-requires : goal.leaf_type-requires
leaf_type-requires c = (
  (runnable_of c.args.process.now.runnable).nodes_hold.keep,
  elim c.if-n-process.branch [ then-n-process w ↦ w.if-n-process.true | else-n-process w ↦ ltb-true _ _ (sym w.value-is ∙ c.if-process-n-lt3.true) ],
)

pub returns-then-process-n-lt3 : goal.returns-then-process-n-lt3
unfolding leaf_permits
returns-then-process-n-lt3 c = grind (arith, common_steps)

pub returns-else-process-n-lt3 : goal.returns-else-process-n-lt3
unfolding leaf_permits
returns-else-process-n-lt3 c = grind (arith, common_steps)
